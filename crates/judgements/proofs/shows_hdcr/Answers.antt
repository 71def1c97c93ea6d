-- The four bytes behind an old Step's are those behind an old block, in the new layout.
use mathlib.Core.Path.{◌≡◌, sym, ap, ◌∙◌, subst}
use mathlib.Core.Bool.{Bool, true}
use mathlib.Core.List.{List}
use mathlib.Core.Logic.{◌↔◌}
use Prim.Native.Nat.{ℕ, ◌≤◌}
use native.Mathlib.Omega.{arith}
use borrow.Author.Rules.{rules}
use lib.ListN.{take, drop, length, length-drop}
use lib.Seq.{take-add, take_all, drop-drop, drop_at, length-take-le}
use Rattle.state.specs.Place.{BLOCK_SIZE, OLD_BLOCK_SIZE}
use Rattle.records.specs.declared.layout.Layout.{Layout}
use Rattle.records.specs.declared.layout.Layout.TheVariants.{New}
use Rattle.records.specs.Judged.{ShowsBehind}
use Rattle.records.specs.Layout.{old_layout, step_size, block_after_at}
use Rattle.records.specs.Which.{old, its}
use Rattle.judgements.proofs.shows_hdcr.Goals as goal

-- the last word of the block that a new Step shows
last : (r : List ℕ) → 204 ≤ length r
    → drop OLD_BLOCK_SIZE (take BLOCK_SIZE (drop block_after_at r)) ≡ take 4 (drop (step_size old_layout) r)
last r h =
    let d = drop block_after_at r in
    ap (drop OLD_BLOCK_SIZE) (take-add OLD_BLOCK_SIZE 4 d)
    ∙ drop_at (take OLD_BLOCK_SIZE d) (take 4 (drop OLD_BLOCK_SIZE d)) OLD_BLOCK_SIZE
    (length-take-le OLD_BLOCK_SIZE d (omega (arith, length-drop block_after_at r)))
    ∙ ap (take 4) (drop-drop OLD_BLOCK_SIZE block_after_at r)

-- the comparison of a new Step
new_shows : (layout : Layout) (r b : List ℕ) (t : Bool) → layout ≡ New → step_size (its layout) ≤ length r → length b ≡ BLOCK_SIZE
    → (t ≡ true) ↔ (take 4 (drop (step_size old_layout) r) ≡ take 4 (drop OLD_BLOCK_SIZE b))
    → (t ≡ true) ↔ ShowsBehind (old layout) r b
new_shows layout r b t e h size i =
    let long : 204 ≤ length r = rw e at h in
    let end : take 4 (drop OLD_BLOCK_SIZE b) ≡ drop OLD_BLOCK_SIZE b = take_all 4 _ (omega (arith, length-drop OLD_BLOCK_SIZE b, size)) in
    subst (λ (l : Layout). (t ≡ true) ↔ ShowsBehind (old l) r b) (sym e) (
      (λ z. last r long ∙ i.0 z ∙ end),
      (λ w. i.1 (sym (last r long) ∙ w ∙ sym end)),
    )

pub returns-in-New : goal.returns-in-New
returns-in-New c =
    let x = c.args in
    new_shows x.layout x.r.now x.block.now _ c.in-New.is c.requires (search rules) c.same.ensures
