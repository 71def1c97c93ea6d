-- The masking table asked quickly, the physical exceptions by their kind, the virtual ones asked together, and the first of the six on
-- each way through.
use Rattle.std.specs.Prelude.{Option, None, Some, if◌then◌else◌}
use mathlib.Core.Path.{◌≡◌, refl, ap, ◌∙◌}
use mathlib.Core.Bool.{Bool, true, false, not, ◌&&◌, ◌||◌}
use mathlib.Core.List.{List, [], ◌∷◌}
use Prim.Native.Nat.{ℕ, suc}
use lib.Dec.{eqb}
use borrow.Author.Tests.{eqb-true, eqb-false}
use Rattle.state.specs.Choice.{◌is◌}
use Rattle.state.specs.Field.{mode_field, SCR_NS, HCR_TGE}
use Rattle.state.specs.Mode.{HYP, guest}
use Rattle.state.specs.State.{secure}
use Rattle.state.proofs.Laws.{in_guest}
use Rattle.state.proofs.Test.{same, same_eq, every_bit, at_bit}
use Rattle.interrupts.specs.Check.{first_of, found}
use Rattle.interrupts.specs.Decision.{physical}
use Rattle.interrupts.specs.Exception.{Exception, Synchronous, SError, Fiq, Irq, VirtualSError, VirtualFiq, VirtualIrq, which}
use Rattle.interrupts.specs.Kind.{Kind, serror, fiq, irq, line, R, M, acting_M, W, mask, source}
use Rattle.interrupts.specs.Masking.{Row, table, covers, fits, obeyed}
use Rattle.interrupts.specs.Parts.{virtual_here, taken_if, takes_virtual}
use Rattle.interrupts.specs.Takeable.{physical_masked, virtual_pending, pending, masked, takeable}

-- every state has one row of the masking table, and only one
abbrev fitting : List Row → Bool → Bool → Bool → Bool → Bool → ℕ
fitting [] sec hyp m r w = 0
fitting (x ∷ xs) sec hyp m r w =
    if covers x.who sec hyp && (fits x.m m && (fits x.r r && fits x.w w)) then suc (fitting xs sec hyp m r w) else
    fitting xs sec hyp m r w

rows_tried : every_bit (λ sec. every_bit (λ hyp. every_bit (λ m. every_bit (λ r. every_bit (λ w. eqb (fitting table sec hyp m r w) 1)))))
    ≡ true
rows_tried = refl

pub one_row : (sec hyp m r w : Bool) → fitting table sec hyp m r w ≡ 1
one_row sec hyp m r w =
    let one : Bool → Bool → Bool → Bool → Bool → Bool = λ sec hyp m r w. eqb (fitting table sec hyp m r w) 1 in
    eqb-true (fitting table sec hyp m r w) 1
    (at_bit (one sec hyp m r)
    (at_bit (λ r. every_bit (one sec hyp m r))
    (at_bit (λ m. every_bit (λ r. every_bit (one sec hyp m r)))
    (at_bit (λ hyp. every_bit (λ m. every_bit (λ r. every_bit (one sec hyp m r))))
    (at_bit (λ sec. every_bit (λ hyp. every_bit (λ m. every_bit (λ r. every_bit (one sec hyp m r))))) rows_tried sec)
    hyp) m) r) w)

-- the masking table by tests: at every state and every M, R and W it says the same as its rows
abbrev pub obeyed_by : Bool → Bool → Bool → Bool → Bool → Bool
obeyed_by sec hyp m r w =
    if sec then true else
    if m then (if hyp then not r else false) else
    if r then w else
    true

abbrev agrees : Bool → Bool → Bool → Bool → Bool → Bool
agrees sec hyp m r w = same (obeyed sec hyp m r w) (obeyed_by sec hyp m r w)

tried : every_bit (λ sec. every_bit (λ hyp. every_bit (λ m. every_bit (λ r. every_bit (λ w. agrees sec hyp m r w))))) ≡ true
unfolding obeyed
tried = refl

pub obeyed_by_lem : (sec hyp m r w : Bool) → obeyed sec hyp m r w ≡ obeyed_by sec hyp m r w
obeyed_by_lem sec hyp m r w =
    same_eq (obeyed sec hyp m r w) (obeyed_by sec hyp m r w)
    (at_bit (agrees sec hyp m r)
    (at_bit (λ r. every_bit (agrees sec hyp m r))
    (at_bit (λ m. every_bit (λ r. every_bit (agrees sec hyp m r)))
    (at_bit (λ hyp. every_bit (λ m. every_bit (λ r. every_bit (agrees sec hyp m r))))
    (at_bit (λ sec. every_bit (λ hyp. every_bit (λ m. every_bit (λ r. every_bit (agrees sec hyp m r))))) tried sec)
    hyp) m) r) w)

-- a virtual exception can be taken where one can be pending at all, by its M, its source and its mask bit
parted : (here tge m src msk : Bool)
    → ((here && (not tge && (m && src))) && not msk) ≡ ((here && not tge) && (m && (src && not msk)))
parted true true m src msk = refl
parted true false true src msk = refl
parted true false false src msk = refl
parted false tge m src msk = refl

pub virtual_taken : (k : Kind) (lines cpsr scr hcr : ℕ)
    → (virtual_pending k lines cpsr scr hcr && not (mask k cpsr)) ≡ (virtual_here cpsr scr hcr && takes_virtual k lines cpsr hcr)
virtual_taken k lines cpsr scr hcr =
    rw (in_guest cpsr scr)
    (parted (SCR_NS scr && guest (mode_field cpsr)) (HCR_TGE hcr) (M k hcr) (source k hcr lines) (mask k cpsr))

-- whatever the kind, its three tests make the answer
pub virtual_tests : (k : Kind) (lines cpsr hcr : ℕ) {m src msk v : Bool} → m ≡ M k hcr → src ≡ source k hcr lines
    → msk ≡ mask k cpsr → v ≡ taken_if m src msk → v ≡ takes_virtual k lines cpsr hcr
virtual_tests k lines cpsr hcr p q r e = cc

-- a physical exception can be taken by its line and what masks it
pub can_take : (k : Kind) (lines cpsr scr hcr : ℕ)
    → takeable (physical k) lines cpsr scr hcr ≡ (line k lines && not (physical_masked k cpsr scr hcr))
unfolding takeable pending masked
can_take serror lines cpsr scr hcr = refl
can_take fiq lines cpsr scr hcr = refl
can_take irq lines cpsr scr hcr = refl

-- the same of a physical exception, whose line is asked apart from what masks it; its override bit acts with TGE
pub physical_tests : (k : Kind) (lines cpsr scr hcr : ℕ) {msk sec hyp stored m r w v : Bool} → msk ≡ mask k cpsr
    → sec ≡ secure cpsr scr → hyp ≡ (mode_field cpsr is HYP) → stored ≡ M k hcr → m ≡ (stored || HCR_TGE hcr) → r ≡ R k scr
    → w ≡ W k scr → v ≡ (line k lines && not (obeyed sec hyp m r w && msk))
    → v ≡ (line k lines && not (physical_masked k cpsr scr hcr))
physical_tests k lines cpsr scr hcr {m = m} msk sec hyp stored acts r w e =
    let acting : m ≡ acting_M k hcr = acts ∙ ap (λ o. o || HCR_TGE hcr) stored in
    e ∙ (λ i. line k lines && not (obeyed (sec i) (hyp i) (acting i) (r i) (w i) && msk i))

-- none of the physical exceptions can be taken
abbrev pub NonePhysical : ℕ → ℕ → ℕ → ℕ → Type 0
NonePhysical lines cpsr scr hcr =
    (takeable SError lines cpsr scr hcr ≡ false)
    × (takeable Fiq lines cpsr scr hcr ≡ false)
    × (takeable Irq lines cpsr scr hcr ≡ false)

-- the first of the six, on each way through the tests
module _ (lines cpsr scr hcr : ℕ) where
  abbrev can : Exception → Bool
  can x = takeable x lines cpsr scr hcr

  pub first_serror : can SError ≡ true → Some SError ≡ found lines cpsr scr hcr
  unfolding found
  first_serror a = rw a

  pub first_fiq : can SError ≡ false → can Fiq ≡ true → Some Fiq ≡ found lines cpsr scr hcr
  unfolding found
  first_fiq a b = rw (a, b)

  pub first_irq : can SError ≡ false → can Fiq ≡ false → can Irq ≡ true → Some Irq ≡ found lines cpsr scr hcr
  unfolding found
  first_irq a b c = rw (a, b, c)

  pub serror_is : can VirtualSError ≡ (virtual_here cpsr scr hcr && takes_virtual serror 0 cpsr hcr)
  unfolding takeable pending masked
  serror_is = virtual_taken serror lines cpsr scr hcr

  pub fiq_is : can VirtualFiq ≡ (virtual_here cpsr scr hcr && takes_virtual fiq lines cpsr hcr)
  unfolding takeable pending masked
  fiq_is = virtual_taken fiq lines cpsr scr hcr

  pub irq_is : can VirtualIrq ≡ (virtual_here cpsr scr hcr && takes_virtual irq lines cpsr hcr)
  unfolding takeable pending masked
  irq_is = virtual_taken irq lines cpsr scr hcr

  module _ (none : NonePhysical lines cpsr scr hcr) where
    rest : {x : Option Exception} → x ≡ first_of (VirtualSError ∷ VirtualFiq ∷ VirtualIrq ∷ []) lines cpsr scr hcr
        → x ≡ found lines cpsr scr hcr
    unfolding found
    rest h = rw (none.0, none.1, none.2) h

    pub nothing_virtual : virtual_here cpsr scr hcr ≡ false → None ≡ found lines cpsr scr hcr
    nothing_virtual n = rest (rw (serror_is, fiq_is, irq_is, n))

    pub first_virtual_serror : virtual_here cpsr scr hcr ≡ true → takes_virtual serror 0 cpsr hcr ≡ true
        → Some VirtualSError ≡ found lines cpsr scr hcr
    first_virtual_serror n s = rest (rw (serror_is, n, s))

    pub first_virtual_fiq : virtual_here cpsr scr hcr ≡ true → takes_virtual serror 0 cpsr hcr ≡ false
        → takes_virtual fiq lines cpsr hcr ≡ true → Some VirtualFiq ≡ found lines cpsr scr hcr
    first_virtual_fiq n s f = rest (rw (serror_is, fiq_is, n, s, f))

    pub first_virtual_irq : {t : Bool} → virtual_here cpsr scr hcr ≡ true → takes_virtual serror 0 cpsr hcr ≡ false
        → takes_virtual fiq lines cpsr hcr ≡ false → takes_virtual irq lines cpsr hcr ≡ t
        → (if t then Some VirtualIrq else None) ≡ found lines cpsr scr hcr
    first_virtual_irq n s f i = rest (rw (serror_is, fiq_is, irq_is, n, s, f, i))

pub ruleset virtual_parts = (serror_is, fiq_is, irq_is)

-- what a check finds is nothing or one of the six
pub found_cases : (P : Option Exception → Type 0) (lines cpsr scr hcr : ℕ) → P None
    → ((x : Exception) → (x ≡ Synchronous → ⊥) → takeable x lines cpsr scr hcr ≡ true → P (Some x))
    → P (found lines cpsr scr hcr)
unfolding found
found_cases P lines cpsr scr hcr none some =
    try SError refl (try Fiq refl (try Irq refl (try VirtualSError refl (try VirtualFiq refl (try VirtualIrq refl none)))))
  where
    try : (x : Exception) → (which x is 0) ≡ false → {r : Option Exception} → P r → P (if takeable x lines cpsr scr hcr then Some x else r)
    try x n {r} h = by (takeable x lines cpsr scr hcr) refl
      where
        by : (t : Bool) → takeable x lines cpsr scr hcr ≡ t → P (if t then Some x else r)
        by true e = some x (λ q. eqb-false (which x) 0 n (ap which q)) e
        by false e = h
