-- The decision table: the 256 numbers of the code are the entries, a test over the whole table; and an entry says of any kind, in
-- any state with the bits of its index, whether the physical exception is taken, and where it goes.
use Rattle.std.specs.Prelude.{if◌then◌else◌}
use mathlib.Core.Path.{◌≡◌, refl}
use mathlib.Core.Bool.{Bool, true, false, not, ◌&&◌, ◌||◌}
use mathlib.Core.List.{List, [], ◌∷◌, map}
use Prim.Native.Nat.{ℕ, ◌/◌, ◌%◌, ◌<◌, ◌≤◌}
use native.Mathlib.Omega.{arith}
use lib.Dec.{eqb, ltb, lit<}
use lib.ListN.{get_or}
use borrow.Author.Tests.{eqb-true, le-leb, ltb-true, ltb-false}
use Rattle.state.specs.Choice.{◌is◌, ◌among◌}
use Rattle.state.specs.Field.{mode_field, HCR_TGE}
use Rattle.state.specs.Mode.{MONITOR, HYP}
use Rattle.state.specs.State.{secure}
use Rattle.state.proofs.Test.{every_below, at_below, every_bit, at_bit, true_is_not_false}
use Rattle.interrupts.specs.Check.{goes}
use Rattle.interrupts.specs.Decision.{entry, index, index_of, target_number, physical}
use Rattle.interrupts.specs.Decision.{NOT_TAKEN, TO_MONITOR, TO_HYP, TO_DEFAULT, NO_CLASS}
use Rattle.interrupts.specs.Former.{entry_as_stored, changed}
use Rattle.interrupts.specs.Kind.{Kind, serror, fiq, irq, line, R, M, W, mask, own_mode}
use Rattle.interrupts.specs.Masking.{obeyed}
use Rattle.interrupts.proofs.Laws.{can_take}
use Rattle.interrupts.specs.Takeable.{pending, masked, takeable}

abbrev pub decisions : List (List ℕ)
decisions =
    (0 ∷ 3 ∷ 0 ∷ 0 ∷ 0 ∷ 3 ∷ 0 ∷ 0 ∷ 0 ∷ 3 ∷ 0 ∷ 0 ∷ 0 ∷ 3 ∷ 0 ∷ 0 ∷ [])
    ∷ (0 ∷ 3 ∷ 0 ∷ 0 ∷ 0 ∷ 3 ∷ 0 ∷ 0 ∷ 0 ∷ 3 ∷ 0 ∷ 0 ∷ 0 ∷ 3 ∷ 0 ∷ 0 ∷ [])
    ∷ (0 ∷ 1 ∷ 0 ∷ 0 ∷ 0 ∷ 1 ∷ 0 ∷ 0 ∷ 0 ∷ 1 ∷ 0 ∷ 0 ∷ 0 ∷ 1 ∷ 0 ∷ 0 ∷ [])
    ∷ (0 ∷ 1 ∷ 0 ∷ 0 ∷ 0 ∷ 1 ∷ 0 ∷ 0 ∷ 0 ∷ 1 ∷ 0 ∷ 0 ∷ 0 ∷ 1 ∷ 0 ∷ 0 ∷ [])
    ∷ (0 ∷ 3 ∷ 0 ∷ 0 ∷ 0 ∷ 3 ∷ 0 ∷ 0 ∷ 0 ∷ 2 ∷ 0 ∷ 2 ∷ 0 ∷ 2 ∷ 0 ∷ 2 ∷ [])
    ∷ (0 ∷ 2 ∷ 0 ∷ 2 ∷ 0 ∷ 2 ∷ 0 ∷ 2 ∷ 0 ∷ 2 ∷ 0 ∷ 2 ∷ 0 ∷ 2 ∷ 0 ∷ 2 ∷ [])
    ∷ (0 ∷ 1 ∷ 0 ∷ 1 ∷ 0 ∷ 1 ∷ 0 ∷ 0 ∷ 0 ∷ 1 ∷ 0 ∷ 1 ∷ 0 ∷ 1 ∷ 0 ∷ 1 ∷ [])
    ∷ (0 ∷ 1 ∷ 0 ∷ 1 ∷ 0 ∷ 1 ∷ 0 ∷ 1 ∷ 0 ∷ 1 ∷ 0 ∷ 1 ∷ 0 ∷ 1 ∷ 0 ∷ 1 ∷ [])
    ∷ (0 ∷ 2 ∷ 0 ∷ 0 ∷ 0 ∷ 2 ∷ 0 ∷ 0 ∷ 0 ∷ 2 ∷ 0 ∷ 0 ∷ 0 ∷ 2 ∷ 0 ∷ 0 ∷ [])
    ∷ (0 ∷ 2 ∷ 0 ∷ 0 ∷ 0 ∷ 2 ∷ 0 ∷ 0 ∷ 0 ∷ 2 ∷ 0 ∷ 0 ∷ 0 ∷ 2 ∷ 0 ∷ 0 ∷ [])
    ∷ (0 ∷ 1 ∷ 0 ∷ 1 ∷ 0 ∷ 1 ∷ 0 ∷ 0 ∷ 0 ∷ 1 ∷ 0 ∷ 1 ∷ 0 ∷ 1 ∷ 0 ∷ 1 ∷ [])
    ∷ (0 ∷ 1 ∷ 0 ∷ 1 ∷ 0 ∷ 1 ∷ 0 ∷ 1 ∷ 0 ∷ 1 ∷ 0 ∷ 1 ∷ 0 ∷ 1 ∷ 0 ∷ 1 ∷ [])
    ∷ (4 ∷ 4 ∷ 4 ∷ 4 ∷ 4 ∷ 4 ∷ 4 ∷ 4 ∷ 4 ∷ 4 ∷ 4 ∷ 4 ∷ 4 ∷ 4 ∷ 4 ∷ 4 ∷ [])
    ∷ (4 ∷ 4 ∷ 4 ∷ 4 ∷ 4 ∷ 4 ∷ 4 ∷ 4 ∷ 4 ∷ 4 ∷ 4 ∷ 4 ∷ 4 ∷ 4 ∷ 4 ∷ 4 ∷ [])
    ∷ (4 ∷ 4 ∷ 4 ∷ 4 ∷ 4 ∷ 4 ∷ 4 ∷ 4 ∷ 4 ∷ 4 ∷ 4 ∷ 4 ∷ 4 ∷ 4 ∷ 4 ∷ 4 ∷ [])
    ∷ (4 ∷ 4 ∷ 4 ∷ 4 ∷ 4 ∷ 4 ∷ 4 ∷ 4 ∷ 4 ∷ 4 ∷ 4 ∷ 4 ∷ 4 ∷ 4 ∷ 4 ∷ 4 ∷ [])
    ∷ []

-- the number on its line
abbrev pub decided : ℕ → ℕ
decided i = get_or (get_or decisions (i / 16) []) (i % 16) 0

pub decisions_right : (i : ℕ) → i < 256 → decided i ≡ entry i
unfolding entry takeable pending masked obeyed
decisions_right i l =
    let right : ℕ → Bool = λ i. eqb (decided i) (entry i) in eqb-true (decided i) (entry i) (at_below 256 right refl i l)

-- past the table there is no class
pub decision_out : (i : ℕ) → 256 ≤ i → NO_CLASS ≡ entry i
unfolding entry
decision_out i l = let h : 3 ≤ i / 64 = omega arith in rw (le-leb 3 (i / 64) h)

-- ---- what No. 5 changed: four entries, and no other

pub four_changed : (i : ℕ) → (i among changed) ≡ false → entry i ≡ entry_as_stored i
unfolding entry entry_as_stored takeable pending masked obeyed
four_changed i n = by (ltb i 256) refl
  where
    same_there : ℕ → Bool
    same_there i = i among changed || eqb (entry i) (entry_as_stored i)

    by : (t : Bool) → ltb i 256 ≡ t → entry i ≡ entry_as_stored i
    by true e =
        let h = at_below 256 same_there refl i (ltb-true i 256 e) in eqb-true (entry i) (entry_as_stored i) (rw n at h)
    by false e =
        let l = ltb-false i 256 e in
        let c : 3 ≤ i / 64 = omega arith in
        rw (le-leb 3 (i / 64) c)

pub they_were : map entry_as_stored changed ≡ 0 ∷ 0 ∷ 0 ∷ 0 ∷ []
unfolding entry_as_stored obeyed
they_were = refl

pub they_are : map entry changed ≡ 2 ∷ 2 ∷ 1 ∷ 1 ∷ []
unfolding entry takeable pending masked obeyed
they_are = refl

-- ---- an entry by its bits

-- the number of where it goes, if it is taken
abbrev number_by : Bool → Bool → ℕ
number_by r is_to_hyp =
    if r then TO_MONITOR else
    if is_to_hyp then TO_HYP else
    TO_DEFAULT

abbrev entry_by : Bool → Bool → Bool → Bool → Bool → Bool → Bool → Bool → ℕ
entry_by p msk w m tge r sec hyp =
    if p && not (obeyed sec hyp (m || tge) r w && msk) then number_by r (hyp || (not sec && (tge || m))) else NOT_TAKEN

abbrev agrees : Bool → Bool → Bool → Bool → Bool → Bool → ℕ → Bool
agrees p msk w m tge r c = eqb (entry (index p msk w m tge r c)) (entry_by p msk w m tge r (c is 0) (c is 2))

-- for each M, TGE, R and class, given that it is pending, its mask bit and W
abbrev agree : Bool → Bool → Bool → Bool
agree p msk w = every_bit (λ m. every_bit (λ tge. every_bit (λ r. every_below 3 (agrees p msk w m tge r))))

tried : every_bit (λ p. every_bit (λ msk. every_bit (λ w. agree p msk w))) ≡ true
unfolding entry takeable pending masked obeyed
tried = refl

by_bits : (p msk w m tge r : Bool) (c : ℕ) → c < 3
    → entry (index p msk w m tge r c) ≡ entry_by p msk w m tge r (c is 0) (c is 2)
by_bits p msk w m tge r c l =
    eqb-true (entry (index p msk w m tge r c)) (entry_by p msk w m tge r (c is 0) (c is 2))
    (at_below 3 (agrees p msk w m tge r)
    (at_bit (λ r. every_below 3 (agrees p msk w m tge r))
    (at_bit (λ tge. every_bit (λ r. every_below 3 (agrees p msk w m tge r)))
    (at_bit (λ m. every_bit (λ tge. every_bit (λ r. every_below 3 (agrees p msk w m tge r))))
    (at_bit (λ w. agree p msk w)
    (at_bit (λ msk. every_bit (λ w. agree p msk w))
    (at_bit (λ p. every_bit (λ msk. every_bit (λ w. agree p msk w)))
    tried p) msk) w) m) tge) r) c l)

-- the class says whether the state is Secure and the mode Hyp, which are never both
by_class : (p msk w m tge r sec hyp : Bool) → (sec && hyp) ≡ false
    → entry (index p msk w m tge r (if sec then 0 else (if hyp then 2 else 1))) ≡ entry_by p msk w m tge r sec hyp
by_class p msk w m tge r true false h = by_bits p msk w m tge r 0 (lit< tt)
by_class p msk w m tge r false true h = by_bits p msk w m tge r 2 (lit< tt)
by_class p msk w m tge r false false h = by_bits p msk w m tge r 1 (lit< tt)
by_class p msk w m tge r true true h = absurd (true_is_not_false refl h)

-- ---- the same of any kind

-- none of the default modes is Monitor or Hyp
number_of : (k : Kind) (r is_to_hyp : Bool)
    → target_number (if r then MONITOR else (if is_to_hyp then HYP else own_mode k)) ≡ number_by r is_to_hyp
number_of k true is_to_hyp = refl
number_of k false true = refl
number_of serror false false = refl
number_of fiq false false = refl
number_of irq false false = refl

-- where the state is Secure the mode is not Hyp
pub decides : (k : Kind) (lines cpsr scr hcr : ℕ) → (secure cpsr scr && mode_field cpsr is HYP) ≡ false
    → entry (index_of k (line k lines) cpsr scr hcr)
    ≡ (if takeable (physical k) lines cpsr scr hcr then target_number (goes k cpsr scr hcr) else NOT_TAKEN)
decides k lines cpsr scr hcr h =
    let sec = secure cpsr scr in
    let hyp = mode_field cpsr is HYP in
    rw (can_take k lines cpsr scr hcr, number_of k (R k scr) (hyp || (not sec && (HCR_TGE hcr || M k hcr))))
    (by_class (line k lines) (mask k cpsr) (W k scr) (M k hcr) (HCR_TGE hcr) (R k scr) sec hyp h)
