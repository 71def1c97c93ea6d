-- By the place of the note: the words that say whether a block is good are judged as it would leave them.
use Rattle.std.proofs.Common.{◌≡◌, ap, ◌∙◌, arith, rules}
use Rattle.access.proofs.Noting.{noted_fault, on_cpsr, on_scr, on_hcr, on_another, note_malformed, noted}
use Rattle.state.specs.Refusal.{number_of}
use Rattle.access.proofs.NoteRule.apply.Goals as goal
use Rattle.access.proofs.NoteRule.apply.Goals.{in-33, in-35, in-36, in_default}

pub returns-then-operands-ge-PLACE_VALUES : goal.returns-then-operands-ge-PLACE_VALUES
returns-then-operands-ge-PLACE_VALUES c =
    note_malformed _ _ _ c.told-block c.requires.1 c.if-operands-ge-PLACE_VALUES.true

pub returns : goal.returns
returns c =
    let a = c.args.operands.a in
    let v = c.args.operands.b in
    let b = c.args.block.now in
    let p = c.requires in
    let hcr = c.get_word-hcr.ensures in
    let judged : number_of c.match-p.judged ≡ noted_fault b a v = elim c.match-p.branch [
      | in-33 w ↦ ap number_of w.judged-is ∙ on_cpsr b a v w.in-33.is p.0.1 hcr w.judge-judged.ensures
      | in-35 w ↦ ap number_of w.judged-is ∙ on_scr b a v w.in-35.is p.0.0 hcr w.judge-judged-in-35.ensures
      | in-36 w ↦ ap number_of w.judged-is ∙ on_hcr b a v w.in-36.is p.0.0 p.0.1 w.judge-judged-in-36.ensures
      | in_default w ↦ ap number_of w.judged-is ∙ on_another b a v (omega arith) (omega arith) (omega arith) p.1
    ] in
    noted b a v c.told-block p.1 c.if-operands-ge-PLACE_VALUES.false (search rules) judged c.put_if.ensures
