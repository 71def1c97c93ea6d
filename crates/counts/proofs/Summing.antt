-- The counts of a group, added up: each Step counts once in the groups by code and by answer, and an entry and a done check
-- once in theirs, since every number that the rules answer has a word.
use mathlib.Core.Path.{◌≡◌, refl, sym, ap, ◌∙◌}
use mathlib.Core.Bool.{Bool, true, false, ◌&&◌}
use mathlib.Core.List.{List, [], ◌∷◌}
use Prim.Native.Nat.{ℕ, zero, suc, ◌+◌, ◌<◌}
use native.Mathlib.Omega.{arith}
use lib.ListN.{length}
use lib.Dec.{eqb, ltb}
use borrow.Author.Tests.{eqb-true, eqb-false, ltb-true, ltb-false, lt-ltb, le-ltb}
use Rattle.state.specs.Choice.{◌is◌}
use Rattle.counts.specs.Counts.{Step, code_number, answer_number, is_entry, target_mode, is_done_check, exception_taken, counted}
use Rattle.counts.specs.Counts.{how_many, GROUP_SIZE}
use Rattle.counts.specs.Theorems.{total_below, total}
use Rattle.counts.proofs.Bumping.{one}

-- ---- one Step

-- in how many of the classes below m a Step counts
abbrev pub hits_below : (group m : ℕ) → Step → ℕ
hits_below group zero s = 0
hits_below group (suc m) s = one (counted group m s) + hits_below group m s

-- once, where its number lies below m
one_more : (n m : ℕ) → one (n is m) + one (ltb n m) ≡ one (ltb n (suc m))
one_more n m = go (eqb n m) refl (ltb n m) refl (ltb n (suc m)) refl
  where
    go : (t : Bool) → eqb n m ≡ t → (u : Bool) → ltb n m ≡ u → (v : Bool) → ltb n (suc m) ≡ v → one t + one u ≡ one v
    go true e true f v g = let p = eqb-true n m e in let q = ltb-true n m f in absurd (omega arith)
    go true e false f true g = refl
    go true e false f false g = let p = eqb-true n m e in let q = ltb-false n (suc m) g in absurd (omega arith)
    go false e true f true g = refl
    go false e true f false g = let p = ltb-true n m f in let q = ltb-false n (suc m) g in absurd (omega arith)
    go false e false f true g =
        let p = eqb-false n m e in
        let q = ltb-false n m f in
        let r = ltb-true n (suc m) g in
        absurd (p (omega arith))
    go false e false f false g = refl

-- a group whose number counts where a test holds
module _ (group : ℕ) (s : Step) (t : Bool) (n : ℕ) (class : (i : ℕ) → counted group i s ≡ (t && (n is i))) where
  once : (m : ℕ) → hits_below group m s ≡ one (t && ltb n m)
  once zero = never_below t
    where
      never_below : (t : Bool) → 0 ≡ one (t && ltb n 0)
      never_below true = sym (ap one (le-ltb n 0 (omega arith)))
      never_below false = refl
  once (suc m) =
      (λ i. one (class m i) + once m i) ∙ sums t
    where
      sums : (t : Bool) → one (t && (n is m)) + one (t && ltb n m) ≡ one (t && ltb n (suc m))
      sums true = one_more n m
      sums false = refl

  pub once_in_all : n < GROUP_SIZE → hits_below group GROUP_SIZE s ≡ one t
  once_in_all l = once GROUP_SIZE ∙ ap (λ (b : Bool). one (t && b)) (lt-ltb n GROUP_SIZE l) ∙ with_true t
    where
      with_true : (t : Bool) → one (t && true) ≡ one t
      with_true true = refl
      with_true false = refl

  pub once_nowhere : t ≡ false → hits_below group GROUP_SIZE s ≡ one t
  once_nowhere e =
      once GROUP_SIZE ∙ ap (λ (b : Bool). one (b && ltb n GROUP_SIZE)) e ∙ sym (ap one e)

-- ---- a list of Steps

total_none : (group m : ℕ) → total_below group m [] ≡ 0
unfolding total_below how_many
total_none group zero = refl
total_none group (suc m) = omega (arith, total_none group m)

total_more : (group m : ℕ) (s : Step) (ss : List Step)
    → total_below group m (s ∷ ss) ≡ hits_below group m s + total_below group m ss
unfolding total_below how_many
total_more group zero s ss = refl
total_more group (suc m) s ss = omega (arith, total_more group m s ss)

-- a group adds up to the Steps that pass a test, if each Step counts once where it passes
abbrev pub All : (Step → Type 0) → List Step → Type 0
All P [] = Unit {0}
All P (s ∷ ss) = P s × All P ss

pub adds_up : (group : ℕ) (test : Step → Bool) (ss : List Step)
    → All (λ (s : Step). hits_below group GROUP_SIZE s ≡ one (test s)) ss
    → total group ss ≡ how_many test ss
unfolding how_many
adds_up group test [] h = total_none group GROUP_SIZE
adds_up group test (s ∷ ss) h =
    total_more group GROUP_SIZE s ss ∙ (λ i. h.0 i + adds_up group test ss h.1 i)

pub every : (ss : List Step) → how_many (λ (s : Step). true) ss ≡ length ss
unfolding how_many
every [] = refl
every (s ∷ ss) = omega (arith, every ss)

-- ---- the four groups

module _ (s : Step) where
  pub by_code : code_number s < GROUP_SIZE → hits_below 1 GROUP_SIZE s ≡ 1
  unfolding counted
  by_code l = once_in_all 1 s true (code_number s) (λ i. refl) l

  pub by_answer : answer_number s < GROUP_SIZE → hits_below 2 GROUP_SIZE s ≡ 1
  unfolding counted
  by_answer l = once_in_all 2 s true (answer_number s) (λ i. refl) l

  pub by_target : target_mode s < GROUP_SIZE → hits_below 3 GROUP_SIZE s ≡ one (is_entry s)
  unfolding counted
  by_target l = once_in_all 3 s (is_entry s) (target_mode s) (λ i. refl) l

  pub by_taken : exception_taken s < GROUP_SIZE → hits_below 4 GROUP_SIZE s ≡ one (is_done_check s)
  unfolding counted
  by_taken l = once_in_all 4 s (is_done_check s) (exception_taken s) (λ i. refl) l

  -- a Step that does not pass counts nowhere, whatever its numbers are
  pub no_entry : is_entry s ≡ false → hits_below 3 GROUP_SIZE s ≡ one (is_entry s)
  unfolding counted
  no_entry e = once_nowhere 3 s (is_entry s) (target_mode s) (λ i. refl) e

  pub no_check : is_done_check s ≡ false → hits_below 4 GROUP_SIZE s ≡ one (is_done_check s)
  unfolding counted
  no_check e = once_nowhere 4 s (is_done_check s) (exception_taken s) (λ i. refl) e
