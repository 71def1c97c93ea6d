-- A Step has one number in each group, and a word belongs to one group: so what the four bumps of a Step add to a word,
-- taken together, is whether the Step counts there.
use Rattle.std.specs.Prelude.{if◌then◌else◌}
use mathlib.Core.Path.{◌≡◌, refl, sym, ap, ◌∙◌}
use mathlib.Core.Bool.{Bool, true, false, ◌&&◌}
use mathlib.Core.List.{List}
use Prim.Native.Nat.{ℕ, zero, suc, ◌+◌, ◌*◌, ◌/◌, ◌%◌, ◌<◌, ◌≤◌, ◌^◌}
use native.Mathlib.Omega.{arith}
use lib.ListN.{length, get_or, replicate}
use lib.Dec.{eqb, ltb}
use borrow.Author.Tests.{eq-eqb, ne_eqb, eqb-true, eqb-false, ltb-true, ltb-false}
use Rattle.words.specs.Word.{spelt, word, put}
use Rattle.words.proofs.Laws.{word-put_same, word-put_other, length-put}
use Rattle.state.specs.Choice.{◌is◌}
use Rattle.counts.specs.Counts.{Step, counted, code_number, answer_number, is_entry, target_mode, is_done_check}
use Rattle.counts.specs.Counts.{exception_taken, GROUP_SIZE, WORDS, COUNTS_SIZE}
use Rattle.counts.specs.Parts.{step_of, NOWHERE, target_number, taken_number, bumped, Tally, Counted}

abbrev pub one : Bool → ℕ
one t = if t then 1 else 0

-- does a bump under this number of the group that begins at first reach the word w?
abbrev pub hits : ℕ → ℕ → ℕ → Bool
hits first number w = ltb number GROUP_SIZE && (first + number is w)

pub tally_up : {m n : ℕ} {b : List ℕ} → m ≤ n → Tally m b → Tally n b
tally_up l t = record { size = t.size; small = λ w h. omega (arith, t.small w h) }

-- a new tally
zero_at : (n i : ℕ) → ◌≡◌ {A = ℕ} (get_or (replicate n 0) i 0) 0
zero_at zero i = refl
zero_at (suc n) zero = refl
zero_at (suc n) (suc i) = zero_at n i

pub tally_none : Tally 0 (replicate COUNTS_SIZE 0)
unfolding spelt
tally_none =
    record {
      size = refl;
      small = λ w l. omega (
        arith,
        zero_at COUNTS_SIZE (4 * w),
        zero_at COUNTS_SIZE (4 * w + 1),
        zero_at COUNTS_SIZE (4 * w + 2),
        zero_at COUNTS_SIZE (4 * w + 3),
      );
    }

pub one_small : (t : Bool) → one t ≤ 1
one_small true = omega arith
one_small false = omega arith

-- ---- one bump

module _ {n : ℕ} (b : List ℕ) (first number : ℕ) (t : Tally n b) (few : n + 1 < 2 ^ 32) (room : first + GROUP_SIZE ≤ WORDS) where
  pub word-bumped : (w : ℕ) → w < WORDS → word (bumped b first number) w ≡ word b w + one (hits first number w)
  unfolding bumped
  word-bumped w h = go (ltb number GROUP_SIZE) refl (eqb (first + number) w) refl
    where
      go : (s : Bool) → ltb number GROUP_SIZE ≡ s → (u : Bool) → eqb (first + number) w ≡ u
          → word (if s then put b (first + number) (word b (first + number) + 1) else b) w ≡ word b w + one (s && u)
      go true e true d =
          let at : first + number ≡ w = eqb-true (first + number) w d in
          let less = ltb-true number GROUP_SIZE e in
          let fits = t.small (first + number) (omega arith) in
          let whole : 4 * (first + number) + 4 ≤ length b = omega (arith, t.size) in
          ap (word (put b (first + number) (word b (first + number) + 1))) (sym at)
          ∙ word-put_same b (first + number) (word b (first + number) + 1) whole (omega (arith, fits))
          ∙ ap (λ (q : ℕ). word b q + 1) at
      go true e false d =
          word-put_other b (first + number) (word b (first + number) + 1) w (eqb-false (first + number) w d)
          ∙ omega arith
      go false e u d = omega arith

  pub length-bumped : length (bumped b first number) ≡ COUNTS_SIZE
  unfolding bumped
  length-bumped = go (ltb number GROUP_SIZE)
    where
      go : (s : Bool) → length (if s then put b (first + number) (word b (first + number) + 1) else b) ≡ COUNTS_SIZE
      go true = length-put b (first + number) (word b (first + number) + 1) ∙ t.size
      go false = t.size

  pub tally_bumped : Tally (n + 1) (bumped b first number)
  tally_bumped =
      record {
        size = length-bumped;
        small = λ w h. omega (arith, word-bumped w h, t.small w h, one_small (hits first number w));
      }

-- ---- which word a bump reaches

-- in its own group it is the word of its number, in another none
hit_in : (q n w : ℕ) → w / GROUP_SIZE ≡ q → hits (GROUP_SIZE * q) n w ≡ (n is w % GROUP_SIZE)
hit_in q n w e = go (ltb n GROUP_SIZE) refl (eqb n (w % GROUP_SIZE)) refl
  where
    go : (s : Bool) → ltb n GROUP_SIZE ≡ s → (u : Bool) → eqb n (w % GROUP_SIZE) ≡ u → (s && (GROUP_SIZE * q + n is w)) ≡ u
    go true l true d = eq-eqb (GROUP_SIZE * q + n) w (omega (arith, eqb-true n (w % GROUP_SIZE) d))
    go true l false d =
        let less = ltb-true n GROUP_SIZE l in
        ne_eqb (GROUP_SIZE * q + n) w (λ p. eqb-false n (w % GROUP_SIZE) d (omega arith))
    go false l true d =
        let more = ltb-false n GROUP_SIZE l in
        absurd (omega (arith, eqb-true n (w % GROUP_SIZE) d))
    go false l false d = refl

hit_out : (q n w : ℕ) → (w / GROUP_SIZE ≡ q → ⊥) → hits (GROUP_SIZE * q) n w ≡ false
hit_out q n w e = go (ltb n GROUP_SIZE) refl
  where
    go : (s : Bool) → ltb n GROUP_SIZE ≡ s → (s && (GROUP_SIZE * q + n is w)) ≡ false
    go true l =
        let less = ltb-true n GROUP_SIZE l in
        ne_eqb (GROUP_SIZE * q + n) w (λ p. e (omega arith))
    go false l = refl

-- ---- a Step

-- what its four bumps add to the word w
abbrev pub added : Step → ℕ → ℕ
added s w =
    one (hits 0 (code_number s) w) + one (hits 32 (answer_number s) w) + one (hits 64 (target_number s) w)
    + one (hits 96 (taken_number s) w)

-- a number that is NOWHERE unless the test holds is this word's exactly where the test holds and the number is
number_if : (t : Bool) (n i : ℕ) → i < GROUP_SIZE → ((if t then n else NOWHERE) is i) ≡ (t && (n is i))
number_if true n i l = refl
number_if false n i l = ne_eqb NOWHERE i (λ e. omega arith)

-- four tests, of which all but one are known to fail
module _ (a b c d : Bool) where
  abbrev four : ℕ
  four = one a + one b + one c + one d

  first_alone : {t : Bool} → a ≡ t → b ≡ false → c ≡ false → d ≡ false → four ≡ one t
  first_alone {t} p q r u =
      (λ i. one (p i) + one (q i) + one (r i) + one (u i)) ∙ (let n : one t + 0 + 0 + 0 ≡ one t = omega arith in n)

  second_alone : {t : Bool} → a ≡ false → b ≡ t → c ≡ false → d ≡ false → four ≡ one t
  second_alone {t} p q r u =
      (λ i. one (p i) + one (q i) + one (r i) + one (u i)) ∙ (let n : 0 + one t + 0 + 0 ≡ one t = omega arith in n)

  third_alone : {t : Bool} → a ≡ false → b ≡ false → c ≡ t → d ≡ false → four ≡ one t
  third_alone {t} p q r u =
      (λ i. one (p i) + one (q i) + one (r i) + one (u i)) ∙ (let n : 0 + 0 + one t + 0 ≡ one t = omega arith in n)

  fourth_alone : {t : Bool} → a ≡ false → b ≡ false → c ≡ false → d ≡ t → four ≡ one t
  fourth_alone {t} p q r u =
      (λ i. one (p i) + one (q i) + one (r i) + one (u i)) ∙ (let n : 0 + 0 + 0 + one t ≡ one t = omega arith in n)

module _ (s : Step) (w : ℕ) where
  -- the bumps of other groups than the word's
  not_code : (w / GROUP_SIZE ≡ 0 → ⊥) → hits 0 (code_number s) w ≡ false
  not_code n = hit_out 0 (code_number s) w n

  not_answer : (w / GROUP_SIZE ≡ 1 → ⊥) → hits 32 (answer_number s) w ≡ false
  not_answer n = hit_out 1 (answer_number s) w n

  not_target : (w / GROUP_SIZE ≡ 2 → ⊥) → hits 64 (target_number s) w ≡ false
  not_target n = hit_out 2 (target_number s) w n

  not_taken : (w / GROUP_SIZE ≡ 3 → ⊥) → hits 96 (taken_number s) w ≡ false
  not_taken n = hit_out 3 (taken_number s) w n

  low : w % GROUP_SIZE < GROUP_SIZE
  low = omega arith

  -- by the group of the word
  in_group : (q : ℕ) → w / GROUP_SIZE ≡ q → w < WORDS → added s w ≡ one (counted (q + 1) (w % GROUP_SIZE) s)
  unfolding counted target_number taken_number
  in_group zero e l =
      first_alone _ _ _ _ (hit_in 0 (code_number s) w e) (not_answer (λ p. omega arith)) (not_target (λ p. omega arith))
      (not_taken (λ p. omega arith))
  in_group (suc zero) e l =
      second_alone _ _ _ _ (not_code (λ p. omega arith)) (hit_in 1 (answer_number s) w e) (not_target (λ p. omega arith))
      (not_taken (λ p. omega arith))
  in_group (suc (suc zero)) e l =
      third_alone _ _ _ _ (not_code (λ p. omega arith)) (not_answer (λ p. omega arith))
      (hit_in 2 (target_number s) w e ∙ number_if (is_entry s) (target_mode s) (w % GROUP_SIZE) low)
      (not_taken (λ p. omega arith))
  in_group (suc (suc (suc zero))) e l =
      fourth_alone _ _ _ _ (not_code (λ p. omega arith)) (not_answer (λ p. omega arith)) (not_target (λ p. omega arith))
      (hit_in 3 (taken_number s) w e ∙ number_if (is_done_check s) (exception_taken s) (w % GROUP_SIZE) low)
  in_group (suc (suc (suc (suc q)))) e l = absurd (omega arith)

  pub added_counted : w < WORDS → added s w ≡ one (counted (w / GROUP_SIZE + 1) (w % GROUP_SIZE) s)
  added_counted l = in_group (w / GROUP_SIZE) refl l

-- the numbers go by three words of the Step
module _ (s : Step) where
  abbrev words : Step
  words = step_of s.event.code s.answer.number s.answer.value

  pub same_target : target_number words ≡ target_number s
  unfolding target_number
  same_target = refl

  pub same_taken : taken_number words ≡ taken_number s
  unfolding taken_number
  same_taken = refl

-- the tally with the four bumps of a Step has the Step counted
module _ (b : List ℕ) (t : Tally 65535 b) (s : Step) where
  abbrev pub b1 : List ℕ
  b1 = bumped b 0 (code_number s)

  abbrev pub b2 : List ℕ
  b2 = bumped b1 32 (answer_number s)

  abbrev pub b3 : List ℕ
  b3 = bumped b2 64 (target_number s)

  pub tally1 : Tally 65536 b1
  tally1 = tally_bumped b 0 (code_number s) t (omega arith) (omega arith)

  pub tally2 : Tally 65537 b2
  tally2 = tally_bumped b1 32 (answer_number s) tally1 (omega arith) (omega arith)

  pub tally3 : Tally 65538 b3
  tally3 = tally_bumped b2 64 (target_number s) tally2 (omega arith) (omega arith)

  pub all_bumped : Counted b s (bumped b3 96 (taken_number s))
  all_bumped =
      record {
        size = length-bumped b3 96 (taken_number s) tally3 (omega arith) (omega arith);
        more = λ w l. omega (
          arith,
          word-bumped b3 96 (taken_number s) tally3 (omega arith) (omega arith) w l,
          word-bumped b2 64 (target_number s) tally2 (omega arith) (omega arith) w l,
          word-bumped b1 32 (answer_number s) tally1 (omega arith) (omega arith) w l,
          word-bumped b 0 (code_number s) t (omega arith) (omega arith) w l,
          added_counted s w l,
        );
      }
