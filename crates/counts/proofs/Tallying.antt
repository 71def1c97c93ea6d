-- What the Steps passed so far have added, and what the others will add, is what all add.
use mathlib.Core.Path.{◌≡◌, refl, ap, ◌∙◌}
use mathlib.Core.List.{List, [], ◌∷◌}
use Prim.Native.Nat.{ℕ, zero, suc, ◌+◌, ◌-◌, ◌/◌, ◌%◌, ◌<◌, ◌≤◌}
use native.Mathlib.Omega.{arith}
use native.Mathlib.Nat.{mul-zero, mul-suc, mul-le-mul_left}
use native.Mathlib.Numerals.{add-one}
use lib.ListN.{length, drop}
use lib.Seq.{drop-drop}
use Rattle.words.specs.Word.{word}
use Rattle.records.specs.Layout.{Layout, start_size, step_size, most_steps, place_of}
use Rattle.counts.specs.Counts.{Step, counted, how_many, count, gain, GROUP_SIZE, WORDS, COUNTS_SIZE}
use Rattle.counts.specs.Parts.{shown_step, shown_steps, Tally, Counted, Gains}
use Rattle.counts.proofs.Bumping.{one, one_small}

-- no class has more Steps than there are
pub count_few : (group number : ℕ) (ss : List Step) → count group number ss ≤ length ss
unfolding how_many
count_few group number [] = omega arith
count_few group number (s ∷ ss) =
    omega (arith, count_few group number ss, one_small (counted group number s))

module _ (L : Layout) where
  pub length_shown : (m : ℕ) (r : List ℕ) → length (shown_steps L m r) ≡ m
  unfolding shown_steps
  length_shown zero r = refl
  length_shown (suc m) r = ap suc (length_shown m (drop (step_size L) r))

  -- the first of the Steps that are left
  gain_next : (m : ℕ) (r : List ℕ) (w : ℕ) → 0 < m
      → gain (shown_steps L m r) w
      ≡ one (counted (w / GROUP_SIZE + 1) (w % GROUP_SIZE) (shown_step r)) + gain (shown_steps L (m - 1) (drop (step_size L) r)) w
  unfolding shown_steps how_many
  gain_next zero r w l = absurd (omega arith)
  gain_next (suc m) r w l =
      let e : m ≡ suc m - 1 = omega arith in
      ap (λ (k : ℕ). one (counted (w / GROUP_SIZE + 1) (w % GROUP_SIZE) (shown_step r))
      + gain (shown_steps L k (drop (step_size L) r)) w) e

  gain_none : (m : ℕ) (r : List ℕ) (w : ℕ) → m ≡ 0 → gain (shown_steps L m r) w ≡ 0
  unfolding shown_steps how_many
  gain_none zero r w e = refl
  gain_none (suc m) r w e = absurd (omega arith)

  module _ (s : List ℕ) (steps : ℕ) where
    abbrev all : List Step
    all = shown_steps L steps (drop (start_size L) s)

    -- k Steps were counted
    pub record Passed (gains : List ℕ) (k : ℕ) : Type 0 where
      pub size : length gains ≡ COUNTS_SIZE
      pub words : (w : ℕ) → w < WORDS → word gains w + gain (shown_steps L (steps - k) (drop (place_of L k) s)) w ≡ gain all w

    pub passed_none : (gains : List ℕ) → Tally 0 gains → Passed gains 0
    passed_none gains t =
        let whole : steps - 0 ≡ steps = omega arith in
        let first : place_of L 0 ≡ start_size L = omega (arith, mul-zero (step_size L)) in
        record {
          size = t.size;
          words = λ w l. (λ i. word gains w + gain (shown_steps L (whole i) (drop (first i) s)) w)
              ∙ omega (arith, t.small w l);
        }

    -- the next Step lies within the string
    pub passed_whole : (k : ℕ) → k < steps → place_of L steps ≤ length s → place_of L k + step_size L ≤ length s
    passed_whole k less whole = omega (arith, mul-suc (step_size L) k, mul-le-mul_left (step_size L) less)

    module _ (gains : List ℕ) (k : ℕ) (p : Passed gains k) where
      pub passed_tally : steps ≤ most_steps → Tally 65535 gains
      passed_tally most =
          record {
            size = p.size;
            small = λ w l. omega (
              arith,
              p.words w l,
              count_few (w / GROUP_SIZE + 1) (w % GROUP_SIZE) all,
              length_shown steps (drop (start_size L) s),
            );
          }

      pub passed_next : k < steps → (c : List ℕ) → Counted gains (shown_step (drop (place_of L k) s)) c → Passed c (k + 1)
      passed_next less c n = record { size = n.size; words = next }
        where
          next : (w : ℕ) → w < WORDS
              → word c w + gain (shown_steps L (steps - (k + 1)) (drop (place_of L (k + 1)) s)) w ≡ gain all w
          next w l =
              let at : ℕ = place_of L k in
              let m : steps - k - 1 ≡ steps - (k + 1) = omega arith in
              let to : at + step_size L ≡ place_of L (k + 1) = omega (arith, mul-suc (step_size L) k, add-one k) in
              let r = drop-drop (step_size L) at s ∙ ap (λ (n : ℕ). drop n s) to in
              let left = gain_next (steps - k) (drop at s) w (omega arith)
              ∙ (λ i. one (counted (w / GROUP_SIZE + 1) (w % GROUP_SIZE) (shown_step (drop at s))) + gain (shown_steps L (m i) (r i)) w) in
              omega (arith, n.more w l, left, p.words w l)

      pub passed_all : steps ≤ k → Gains all gains
      passed_all done =
          record {
            size = p.size;
            words = λ w l. omega (arith, p.words w l, gain_none (steps - k) (drop (place_of L k) s) w (omega arith));
          }
