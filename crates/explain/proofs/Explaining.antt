-- The code's steps in the terms of the definition: what there is to explain of a wrong Step is the difference of the Step at its
-- place from what the rules give on the bytes right before it.
use mathlib.Core.Path.{◌≡◌, sym, ap, ◌∙◌}
use mathlib.Core.List.{List}
use Prim.Native.Nat.{ℕ, ◌+◌, ◌-◌, ◌≤◌}
use lib.ListN.{length, take, drop}
use borrow.Author.Tests.{eq-eqb}
use Rattle.words.specs.Word.{spelt, Bytes}
use Rattle.rules.specs.declared.verdict.Answer.{Answer}
use Rattle.records.specs.declared.report.Report.{Report}
use Rattle.records.specs.Layout.{Layout, Lawful, start_size, step_size, number_at, value_at, block_after_at}
use Rattle.records.specs.Report.{event_of, report, WRONG_STEP}
use Rattle.explain.specs.declared.Difference.{Difference}
use Rattle.explain.specs.Explain.{NUMBER_PART, parts, part_word, differing, step_difference, wrong_part, explained, explanation}
use Rattle.explain.proofs.Before.{WrongAt, wrong_at, before_last, wrong_within}

-- the words read off a Step and those of the step that was taken, under the definition's names
pub compared : (L : Layout) (b r : List ℕ) (d : Difference) (number value : ℕ) (shown : List ℕ) (x : Answer) (c : List ℕ)
    → d ≡ differing (parts L) NUMBER_PART (part_word (record { number = number; value = value }) shown) (part_word x c)
    → number ≡ spelt r number_at
    → value ≡ spelt r value_at
    → shown ≡ take L.size (drop block_after_at r)
    → x ≡ L.answer b (event_of r)
    → c ≡ L.after b (event_of r)
    → d ≡ step_difference L b r
unfolding step_difference
compared L b r d number value shown x c is n v w p q =
    is
    ∙ (λ i. differing (parts L) NUMBER_PART (part_word (record { number = n i; value = v i }) (w i)) (part_word (p i) (q i)))

module _ (L : Layout) (s : List ℕ) (v : Report) (is : v ≡ report L s) where
  -- an explanation, by any report that is the checker's
  pub by_report : (d : Difference) → d ≡ wrong_part L s v → explained L v d ≡ explanation L s
  unfolding explanation
  by_report d e = ap (explained L v) e ∙ ap (λ (w : Report). explained L w (wrong_part L s w)) is

  module _ (LL : Lawful L) (by : Bytes s) (wrong : v.number ≡ WRONG_STEP) where
    at : WrongAt L LL s v
    at = rw is (wrong_at L LL s by (sym (ap (λ (w : Report). w.number) is) ∙ wrong))

    -- the Step lies whole within the string, and behind a block
    pub wrong_place : (start_size L ≤ v.place) × (v.place + step_size L ≤ length s)
    wrong_place = wrong_within L LL s v at

    pub wrong_explained : (d : Difference)
        → d ≡ step_difference L (take L.size (drop (v.place - L.size) s)) (drop v.place s)
        → d ≡ wrong_part L s v
    wrong_explained d e =
        e
        ∙ ap (λ (b : List ℕ). step_difference L b (drop v.place s)) (before_last L LL s v at)
        ∙ simp (eq-eqb v.number WRONG_STEP wrong)
