-- By the ranges and the code: the sum of the table's fields.
use mathlib.Core.Path.{sym, ap, ◌∙◌}
use Prim.Native.Nat.{ℕ, ◌+◌, ◌*◌}
use borrow.Author.Rules.{rules}
use Rattle.std.specs.Prelude.{Some}
use Rattle.instruction.proofs.Writing.{no_such_cell, out_of_range, no_such_code, mrs_word, msr_word}
use Rattle.instruction.proofs.write.Goals as goal
use Rattle.instruction.proofs.write.Goals.{then-p-ge-CELLS-via-then-p-ge-CELLS}
use Rattle.instruction.proofs.write.Goals.{then-p-ge-CELLS-via-else-p-ge-CELLS+then-not-are_in_range}

pub returns-then-p-ge-CELLS : goal.returns-then-p-ge-CELLS
returns-then-p-ge-CELLS c =
    elim c.then-p-ge-CELLS.branch [
      | then-p-ge-CELLS-via-then-p-ge-CELLS w ↦ no_such_cell c.args.p w.if-p-ge-CELLS.true
      | then-p-ge-CELLS-via-else-p-ge-CELLS+then-not-are_in_range w ↦
          out_of_range c.args.p (sym w.are_in_range.ensures ∙ w.if-not-are_in_range.true)
    ]

pub returns-in-10 : goal.returns-in-10
returns-in-10 c =
    let p = c.args.p in
    ap (λ (w : ℕ). Some (w + p.register * 0x1000)) c.shared-both.ensures
    ∙ mrs_word p c.if-p-ge-CELLS.false (sym c.are_in_range.ensures ∙ c.if-not-are_in_range.false) c.in-10.is

pub returns-in-11 : goal.returns-in-11
returns-in-11 c =
    let p = c.args.p in
    ap (λ (w : ℕ). Some (w + 0x20F000 + p.register)) c.shared-both.ensures
    ∙ msr_word p c.if-p-ge-CELLS.false (sym c.are_in_range.ensures ∙ c.if-not-are_in_range.false) c.in-11.is

pub returns-in_default : goal.returns-in_default
returns-in_default c = search (rules, no_such_code)
