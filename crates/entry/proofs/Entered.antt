-- What an entry leaves, read back word by word: once, over the target. "No other word changes."
use Rattle.std.proofs.Common.{◌≡◌, ℕ, ◌+◌, ◌*◌, ◌/◌, ◌%◌, ◌^◌, ◌<◌, Bool, true, false, not, ◌||◌, eqb, ltb, List}
use Rattle.std.proofs.Common.{length, sym, refl, ◌∙◌, arith, lit<, ltb-true, eqb-true}
use borrow.Author.Tests.{eqb-false, not-true}
use Rattle.words.specs.Word.{word, put}
use Rattle.words.proofs.Laws.{length-put, word-put_same, word-put_other}
use Rattle.state.specs.Field.{bits, flag, mode_field, CPSR_A, CPSR_I, CPSR_F, SCTLR_EE, SCTLR_TE}
use Rattle.state.specs.Mode.{targets, is_target, spsr_place, lr_place}
use Rattle.state.specs.Place.{BLOCK_SIZE, CPSR, PC, SCR}
use Rattle.state.proofs.Laws.{flag_moved}
use Rattle.state.proofs.Test.{at_one}
use Rattle.entry.specs.Enter.{sets_a, sets_i, sets_f, masks_after, cpsr_after}
use Rattle.entry.specs.Enter.{control_place, vector_base, vector, written}

-- ---- the new CPSR word fits, has the target's mode, and has bits 24 to 21 clear

-- a flag is 0 or 1 of its bit
flag_small : (t : Bool) → flag 0 t < 2
flag_small true = lit< tt
flag_small false = lit< tt

sum_fits : (q r e a i f t m : ℕ) → q < 32 → r < 16 → e < 2 → a < 2 → i < 2 → f < 2 → t < 2 → m < 32
    → q * 0x8000000 + r * 0x10000 + e * 512 + (a * 256 + i * 128 + f * 64) + t * 32 + m < 2 ^ 32
sum_fits q r e a i f t m hq hr he ha hi hf ht h = omega arith

sum_mode : (q r e a i f t m : ℕ) → m < 32
    → (q * 0x8000000 + r * 0x10000 + e * 512 + (a * 256 + i * 128 + f * 64) + t * 32 + m) % 32 ≡ m
sum_mode q r e a i f t m h = omega arith

sum_clear : (q r e a i f t m : ℕ) → r < 16 → e < 2 → a < 2 → i < 2 → f < 2 → t < 2 → m < 32
    → (q * 0x8000000 + r * 0x10000 + e * 512 + (a * 256 + i * 128 + f * 64) + t * 32 + m) / 0x200000 % 16 * 0x200000 ≡ 0
sum_clear q r e a i f t m hr he ha hi hf ht h = omega arith

module _ (cpsr scr sctlr to : ℕ) where
  abbrev e : ℕ
  e = flag 0 (SCTLR_EE sctlr)

  abbrev a : ℕ
  a = flag 0 (CPSR_A cpsr || sets_a to scr)

  abbrev i : ℕ
  i = flag 0 (CPSR_I cpsr || sets_i to scr)

  abbrev f : ℕ
  f = flag 0 (CPSR_F cpsr || sets_f to scr)

  abbrev t : ℕ
  t = flag 0 (SCTLR_TE sctlr)

  is_sum : cpsr_after cpsr scr sctlr to
      ≡ cpsr / 0x8000000 % 32 * 0x8000000 + cpsr / 0x10000 % 16 * 0x10000 + e * 512 + (a * 256 + i * 128 + f * 64) + t * 32 + to % 32
  unfolding cpsr_after masks_after
  is_sum =
      rw (
        ← flag_moved 9 (SCTLR_EE sctlr),
        ← flag_moved 8 (CPSR_A cpsr || sets_a to scr),
        ← flag_moved 7 (CPSR_I cpsr || sets_i to scr),
        ← flag_moved 6 (CPSR_F cpsr || sets_f to scr),
        ← flag_moved 5 (SCTLR_TE sctlr),
      )

  pub after_fits : cpsr_after cpsr scr sctlr to < 2 ^ 32
  after_fits =
      rw is_sum
      (sum_fits (cpsr / 0x8000000 % 32) (cpsr / 0x10000 % 16) e a i f t (to % 32) (omega arith) (omega arith)
      (flag_small (SCTLR_EE sctlr)) (flag_small (CPSR_A cpsr || sets_a to scr)) (flag_small (CPSR_I cpsr || sets_i to scr))
      (flag_small (CPSR_F cpsr || sets_f to scr)) (flag_small (SCTLR_TE sctlr)) (omega arith))

  pub after_mode : mode_field (cpsr_after cpsr scr sctlr to) ≡ mode_field to
  after_mode = rw is_sum (sum_mode (cpsr / 0x8000000 % 32) (cpsr / 0x10000 % 16) e a i f t (to % 32) (omega arith))

  pub after_clear : bits 24 21 (cpsr_after cpsr scr sctlr to) ≡ 0
  after_clear =
      rw is_sum
      (sum_clear (cpsr / 0x8000000 % 32) (cpsr / 0x10000 % 16) e a i f t (to % 32) (omega arith)
      (flag_small (SCTLR_EE sctlr)) (flag_small (CPSR_A cpsr || sets_a to scr)) (flag_small (CPSR_I cpsr || sets_i to scr))
      (flag_small (CPSR_F cpsr || sets_f to scr)) (flag_small (SCTLR_TE sctlr)) (omega arith))

-- ---- the four words of an entry, and the others

-- numerals that differ
apart : (p q : ℕ) → eqb p q ≡ false → p ≡ q → ⊥
apart p q h = eqb-false p q h

-- a target's two places differ from each other, and from CPSR, PC and SCR
module _ (to : ℕ) (target : is_target to ≡ true) where
  spsr_not_lr : spsr_place to ≡ lr_place to → ⊥
  unfolding is_target spsr_place lr_place
  spsr_not_lr =
      eqb-false (spsr_place to) (lr_place to)
      (not-true (eqb (spsr_place to) (lr_place to)) (at_one targets (λ m. not (eqb (spsr_place m) (lr_place m))) refl to target))

  pub spsr_low : spsr_place to < CPSR
  unfolding is_target spsr_place
  spsr_low = ltb-true (spsr_place to) CPSR (at_one targets (λ m. ltb (spsr_place m) CPSR) refl to target)

  pub lr_low : lr_place to < CPSR
  unfolding is_target lr_place
  lr_low = ltb-true (lr_place to) CPSR (at_one targets (λ m. ltb (lr_place m) CPSR) refl to target)

  pub its_number : mode_field to ≡ to
  unfolding is_target
  its_number = eqb-true (mode_field to) to (at_one targets (λ m. eqb (mode_field m) m) refl to target)

module _ (b : List ℕ) (cpsr to offset link : ℕ) (target : is_target to ≡ true) (size : length b ≡ BLOCK_SIZE) where
  abbrev b1 : List ℕ
  b1 = put b (spsr_place to) cpsr

  abbrev b2 : List ℕ
  b2 = put b1 (lr_place to) link

  abbrev after : ℕ
  after = cpsr_after cpsr (word b SCR) (word b (control_place b to)) to

  abbrev b3 : List ℕ
  b3 = put b2 CPSR after

  abbrev start : ℕ
  start = vector (vector_base b to (word b (control_place b to))) offset

  size1 : length b1 ≡ BLOCK_SIZE
  size1 = length-put b (spsr_place to) cpsr ∙ size

  size2 : length b2 ≡ BLOCK_SIZE
  size2 = length-put b1 (lr_place to) link ∙ size1

  size3 : length b3 ≡ BLOCK_SIZE
  size3 = length-put b2 CPSR after ∙ size2

  pub written_pc : word (written b cpsr to offset link) PC ≡ start
  unfolding written
  written_pc = word-put_same b3 PC start (omega (arith, size3)) (omega arith)

  pub written-cpsr : word (written b cpsr to offset link) CPSR ≡ after
  unfolding written
  written-cpsr =
      word-put_other b3 PC start CPSR (apart PC CPSR refl)
      ∙ word-put_same b2 CPSR after (omega (arith, size2)) (after_fits cpsr (word b SCR) (word b (control_place b to)) to)

  pub written-link : link < 2 ^ 32 → word (written b cpsr to offset link) (lr_place to) ≡ link
  unfolding written
  written-link h =
      let l = lr_low to target in
      word-put_other b3 PC start (lr_place to) (λ e. omega arith)
      ∙ word-put_other b2 CPSR after (lr_place to) (λ e. omega arith)
      ∙ word-put_same b1 (lr_place to) link (omega (arith, size1)) h

  pub written_saved : cpsr < 2 ^ 32 → word (written b cpsr to offset link) (spsr_place to) ≡ cpsr
  unfolding written
  written_saved h =
      let l = spsr_low to target in
      word-put_other b3 PC start (spsr_place to) (λ e. omega arith)
      ∙ word-put_other b2 CPSR after (spsr_place to) (λ e. omega arith)
      ∙ word-put_other b1 (lr_place to) link (spsr_place to) (λ e. spsr_not_lr to target (sym e))
      ∙ word-put_same b (spsr_place to) cpsr (omega arith) h

  -- any other word stays
  pub written_other : (q : ℕ) → (spsr_place to ≡ q → ⊥) → (lr_place to ≡ q → ⊥) → (CPSR ≡ q → ⊥)
      → (PC ≡ q → ⊥) → word (written b cpsr to offset link) q ≡ word b q
  unfolding written
  written_other q s l c p =
      word-put_other b3 PC start q p
      ∙ word-put_other b2 CPSR after q c
      ∙ word-put_other b1 (lr_place to) link q l
      ∙ word-put_other b (spsr_place to) cpsr q s
