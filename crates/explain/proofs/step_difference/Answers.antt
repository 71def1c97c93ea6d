-- The words shown and the words due are read and stepped as the definition names them, the event as the layout sees it, and as
-- much of the two blocks is compared as the layout has.
use mathlib.Core.Path.{◌≡◌, ap, ◌∙◌}
use Prim.Native.Nat.{◌-◌}
use lib.ListN.{take, drop}
use native.Mathlib.Omega.{arith}
use Rattle.rules.specs.Step.{answer, after}
use Rattle.records.specs.Judged.{narrow}
use Rattle.records.specs.Which.{old}
use Rattle.records.specs.Layout.{layout, block_after_at}
use Rattle.records.specs.Report.{event_of}
use Rattle.records.proofs.Lawfuls.{answered_wide, stepped_wide}
use Rattle.explain.proofs.Explaining.{compared}
use Rattle.explain.proofs.step_difference.Goals as goal

pub returns : goal.returns
returns c =
    let is_old = old c.args.layout in
    let r = c.args.r.now in
    let b = c.args.block.now in
    let left = c.step_event-due.new.block in
    -- what the step answers is the layout's, and so is what it leaves
    let answered = c.step_event-due.ensures.answers
    ∙ ap (answer b) c.event_of.ensures
    ∙ answered_wide is_old b c.requires.1 (event_of r) in
    let stepped = stepped_wide is_old b c.requires.1 (event_of r) left
    (c.step_event-due.ensures.leaves ∙ ap (after b) c.event_of.ensures) in
    -- the block shown and the block due
    let size : c.step_size.result - block_after_at ≡ (layout is_old).size = omega (arith, c.step_size.ensures) in
    let shown = ap (λ n. take n (drop block_after_at r)) size in
    let due : take c.block_size.result left ≡ narrow is_old left = ap (λ n. take n left) c.block_size.ensures in
    compared (layout is_old) (narrow is_old b) r _ _ _ _ _ _ c.first_difference.ensures
    c.word_at.ensures c.word_at-2.ensures shown answered (due ∙ stepped.0)
