-- A session has room for either layout: a buffer is zeros after zeros are copied over it, and a run of bytes that comes to the front
-- of its own layout's sizes leaves what lies behind it.
use Rattle.std.specs.Prelude.{if◌then◌else◌}
use mathlib.Core.Path.{◌≡◌, refl, sym, ap, ◌∙◌}
use mathlib.Core.Bool.{Bool, true, false, not, ◌&&◌}
use mathlib.Core.List.{List, ◌∷◌, ◌++◌}
use Prim.Native.Nat.{ℕ, zero, suc, ◌≤◌}
use native.Mathlib.Omega.{arith}
use lib.ListN.{length, take, drop, replicate, length-replicate}
use lib.Seq.{length-take-le}
use Rattle.state.specs.Choice.{◌is◌}
use Rattle.records.specs.declared.session.Session.{Session}
use Rattle.records.specs.Layout.{layout, step_size}
use Rattle.records.specs.Session.{session, fed, comes_old, narrowed, widened, numbers_of, fed_session}
use Rattle.records.proofs.Judging.{copied}

-- ---- zeros

take_zeros : (n m : ℕ) → n ≤ m → take {A = ℕ} n (replicate m 0) ≡ replicate n 0
take_zeros zero m h = refl
take_zeros (suc n) zero h = absurd (omega arith)
take_zeros (suc n) (suc m) h = ap (λ (l : List ℕ). 0 ∷ l) (take_zeros n m (omega arith))

-- so many of m are copied over the buffer d
module _ (m : ℕ) (d : List ℕ) (h : length d ≤ m) where
  abbrev zeros : List ℕ
  zeros = take (length d) (replicate m 0)

  pub length_zeros : length zeros ≡ length d
  length_zeros = length-take-le (length d) (replicate m 0) (omega (arith, length-replicate {A = ℕ} m 0))

  pub cleared : (c : List ℕ) → c ≡ take (length zeros) zeros ++ drop (length zeros) d → c ≡ replicate (length d) 0
  cleared c e = copied zeros d c (sym length_zeros) e ∙ take_zeros (length d) m h

-- ---- a run of bytes

module _ (s : Session) (r : List ℕ) where
  -- the session after it, taken in the one layout or the other
  abbrev front : Bool → Session
  front old = widened old s (fed (layout old) (narrowed old s) r)

  -- it comes to the first bytes of the block and of the record
  pub front_fed : (old : Bool) (t : Session) (n m : ℕ) → n ≡ (layout old).size → m ≡ step_size (layout old)
      → t ≡ fed (layout old) (session s.progress (take n s.block) (take m s.unfinished)) r
      → session t.progress (t.block ++ drop n s.block) (t.unfinished ++ drop m s.unfinished) ≡ front old
  front_fed old t n m a b e =
      ap (λ (v : Session). session v.progress (v.block ++ drop n s.block) (v.unfinished ++ drop m s.unfinished)) e
      ∙ (λ i. widen (a i) (b i))
    where
      widen : ℕ → ℕ → Session
      widen i j =
          let t = fed (layout old) (session s.progress (take i s.block) (take j s.unfinished)) r in
          session t.progress (t.block ++ drop i s.block) (t.unfinished ++ drop j s.unfinished)

  -- in its own layout, it leaves what is fed, unless a fault becomes known
  abbrev known : Session → Bool
  known t = s.progress.fault is 0 && not (t.progress.fault is 0)

  module _ (old : Bool) (own : old ≡ comes_old s.progress s.unfinished r) (t : Session) (e : t ≡ front old) where
    fed_is : (if known t then numbers_of t else t) ≡ fed_session s r
    unfolding fed_session
    fed_is =
        (λ i. if known (e i) then numbers_of (e i) else e i)
        ∙ ap (λ (b : Bool). if known (front b) then numbers_of (front b) else front b) own

    pub fed_kept : known t ≡ false → t ≡ fed_session s r
    fed_kept k = sym (ap (λ (b : Bool). if b then numbers_of t else t) k) ∙ fed_is

    pub fed_cleared : known t ≡ true → numbers_of t ≡ fed_session s r
    fed_cleared k = sym (ap (λ (b : Bool). if b then numbers_of t else t) k) ∙ fed_is
