-- The two words and the block are those shown exactly where the comparisons say so: the block in what both layouts have, and in the
-- new one in HDCR too.
use mathlib.Core.Path.{◌≡◌, sym, ap, ◌∙◌}
use mathlib.Core.Bool.{Bool, true, false}
use mathlib.Core.List.{List, ◌++◌}
use Prim.Native.Nat.{ℕ}
use native.Mathlib.Omega.{arith}
use borrow.Author.Rules.{rules}
use lib.ListN.{take, drop, length, take-append-drop}
use lib.Dec.{lit≤}
use lib.Seq.{take_all, take-take}
use Rattle.state.specs.Place.{BLOCK_SIZE, OLD_BLOCK_SIZE}
use Rattle.records.specs.Judged.{ShowsBehind, narrow}
use Rattle.records.specs.Layout.{layout, block_after_at}
use Rattle.records.specs.Which.{old}
use Rattle.judgements.proofs.shows.Goals as goal

-- ---- the block of either layout: what both have, and HDCR behind it

module _ (r b : List ℕ) where
  abbrev Front : Type 0
  Front = take OLD_BLOCK_SIZE (drop block_after_at r) ≡ take OLD_BLOCK_SIZE b

  abbrev Whole : Bool → Type 0
  Whole old = take (layout old).size (drop block_after_at r) ≡ narrow old b

  front : (old : Bool) → Whole old → Front
  front true e = e
  front false e =
      sym (take-take OLD_BLOCK_SIZE BLOCK_SIZE (drop block_after_at r) (lit≤ tt))
      ∙ ap (take OLD_BLOCK_SIZE) e
      ∙ take-take OLD_BLOCK_SIZE BLOCK_SIZE b (lit≤ tt)

  whole : (old : Bool) → length b ≡ BLOCK_SIZE → Front → ShowsBehind old r b → Whole old
  whole true l i j = i
  whole false l i j =
      let shown = take BLOCK_SIZE (drop block_after_at r) in
      sym (take-append-drop OLD_BLOCK_SIZE shown)
      ∙ (λ k. (take-take OLD_BLOCK_SIZE BLOCK_SIZE (drop block_after_at r) (lit≤ tt) ∙ i) k ++ j k)
      ∙ take-append-drop OLD_BLOCK_SIZE b
      ∙ sym (take_all BLOCK_SIZE b (omega arith))

pub returns : goal.returns
returns c =
    let x = c.args in
    let hdcr : ShowsBehind (old x.layout) x.r.now x.block.now = c.shows_hdcr.ensures.0 c.if-not-shows_hdcr.false in
    let size : length x.block.now ≡ BLOCK_SIZE = search rules in (
      (λ e.
          record {
            number = sym c.word_at.ensures ∙ c.if-word_at-answer.false;
            value = sym c.word_at-2.ensures ∙ c.if-word_at-answer-2.false;
            block = whole x.r.now x.block.now (old x.layout) size (c.same.ensures.0 e) hdcr;
          }),
      (λ s. c.same.ensures.1 (front x.r.now x.block.now (old x.layout) s.block)),
    )
