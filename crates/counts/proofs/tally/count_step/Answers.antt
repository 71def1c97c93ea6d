-- The four bumps are those of the Step that the bytes show.
use Rattle.std.specs.Prelude.{if◌then◌else◌}
use mathlib.Core.Path.{◌≡◌, refl, ap, ◌∙◌}
use mathlib.Core.List.{List}
use Prim.Native.Nat.{ℕ, ◌≤◌}
use native.Mathlib.Omega.{arith}
use Rattle.entry.specs.Code.{is_known}
use Rattle.counts.specs.Counts.{Step}
use Rattle.counts.specs.Parts.{Tally, shown_step, step_of, target_number, taken_number, bumped}
use Rattle.counts.proofs.Bumping.{tally_up, same_target, same_taken, tally1, tally2, tally3, all_bumped}
use Rattle.counts.proofs.tally.count_step.Goals as goal

-- a bump of a tally that is known, under a number that is known
next : (first : ℕ) {number n : ℕ} {c known d : List ℕ} → d ≡ bumped c first number → c ≡ known → number ≡ n → d ≡ bumped known first n
next first made p q = made ∙ (λ i. bumped (p i) first (q i))

-- such a tally has room for the next bump
roomy : {n : ℕ} {c known : List ℕ} → c ≡ known → Tally n known → n ≤ 65538 → Tally 65538 c
roomy p t l = rw p (tally_up l t)

-- the numbers that a Step counts under, by the words that are read of it
of_code : {code m n : ℕ} → n ≡ (if is_known code then code else 0) → code ≡ m → n ≡ (if is_known m then m else 0)
of_code e x = e ∙ ap (λ (u : ℕ). if is_known u then u else 0) x

module _ (s : Step) {code number value : ℕ} (x : code ≡ s.event.code) (y : number ≡ s.answer.number) (z : value ≡ s.answer.value) where
  words : step_of code number value ≡ step_of s.event.code s.answer.number s.answer.value
  words = λ i. step_of (x i) (y i) (z i)

  of_target : {n : ℕ} → n ≡ target_number (step_of code number value) → n ≡ target_number s
  of_target e = e ∙ ap target_number words ∙ same_target s

  of_taken : {n : ℕ} → n ≡ taken_number (step_of code number value) → n ≡ taken_number s
  of_taken e = e ∙ ap taken_number words ∙ same_taken s

pub bump-requires-2 : goal.bump-requires-2
bump-requires-2 c =
    let s = shown_step c.args.r.now in
    let coded = next 0 c.bump.ensures refl (of_code c.code_number.ensures c.word_at-code.ensures) in
    (omega arith, roomy coded (tally1 c.args.gains.now c.requires.1 s) (omega arith))

pub bump_if-requires : goal.bump_if-requires
bump_if-requires c =
    let s = shown_step c.args.r.now in
    let coded = next 0 c.bump.ensures refl (of_code c.code_number.ensures c.word_at-code.ensures) in
    let answered = next 32 c.bump-2.ensures coded c.word_at-number.ensures in
    (omega arith, roomy answered (tally2 c.args.gains.now c.requires.1 s) (omega arith))

pub bump_if-requires-2 : goal.bump_if-requires-2
bump_if-requires-2 c =
    let s = shown_step c.args.r.now in
    let coded = next 0 c.bump.ensures refl (of_code c.code_number.ensures c.word_at-code.ensures) in
    let answered = next 32 c.bump-2.ensures coded c.word_at-number.ensures in
    let target = of_target s c.word_at-code.ensures c.word_at-number.ensures c.word_at-value.ensures c.target_number.ensures in
    let targeted = next 64 c.bump_if.ensures answered target in
    (omega arith, roomy targeted (tally3 c.args.gains.now c.requires.1 s) (omega arith))

pub returns : goal.returns
returns c =
    let s = shown_step c.args.r.now in
    let coded = next 0 c.bump.ensures refl (of_code c.code_number.ensures c.word_at-code.ensures) in
    let answered = next 32 c.bump-2.ensures coded c.word_at-number.ensures in
    let target = of_target s c.word_at-code.ensures c.word_at-number.ensures c.word_at-value.ensures c.target_number.ensures in
    let targeted = next 64 c.bump_if.ensures answered target in
    let taken = of_taken s c.word_at-code.ensures c.word_at-number.ensures c.word_at-value.ensures c.taken_number.ensures in
    rw (next 96 c.bump_if-2.ensures targeted taken) (all_bumped c.args.gains.now c.requires.1 s)
