-- Where an interrupt goes, a good state stays good: one test over the modes and the bits, for any kind.
use Rattle.std.specs.Prelude.{if◌then◌else◌}
use mathlib.Core.Path.{◌≡◌, refl}
use mathlib.Core.Bool.{Bool, true, not, ◌&&◌, ◌||◌}
use mathlib.Core.List.{List, [], ◌∷◌}
use Prim.Native.Nat.{ℕ}
use Rattle.state.specs.Choice.{◌is◌, ◌among◌}
use Rattle.state.specs.Field.{mode_field, SCR_NS, HCR_TGE}
use Rattle.state.specs.Mode.{FIQ, IRQ, ABORT, MONITOR, HYP, modes, known, el1}
use Rattle.state.proofs.Good.{stands, Good}
use Rattle.state.proofs.Test.{implies, implied, every_bit, at_bit, every_of, at_one}
use Rattle.entry.proofs.Keeps.{may_stand}
use Rattle.interrupts.specs.Check.{goes}
use Rattle.interrupts.specs.Kind.{Kind, serror, fiq, irq, R, M, own_mode}

abbrev goes_b : ℕ → Bool → Bool → Bool → Bool → ℕ → ℕ
goes_b m ns tge r om own =
    if r then MONITOR else
    if m is HYP || (not (not ns || m is MONITOR) && (tge || om)) then HYP else
    own

abbrev keeps_physical : ℕ → ℕ → Bool → Bool → Bool → Bool → Bool
keeps_physical m own ns tge r om = implies (stands m ns tge) (may_stand m (goes_b m ns tge r om own) ns tge)

abbrev everywhere : ℕ → ℕ → Bool
everywhere m own = every_bit (λ ns. every_bit (λ tge. every_bit (λ r. every_bit (keeps_physical m own ns tge r))))

abbrev own_modes : List ℕ
own_modes = ABORT ∷ FIQ ∷ IRQ ∷ []

tried : every_of modes (λ m. every_of own_modes (everywhere m)) ≡ true
unfolding known el1
tried = refl

its_own_lem : (k : Kind) → (own_mode k among own_modes) ≡ true
its_own_lem serror = refl
its_own_lem fiq = refl
its_own_lem irq = refl

pub physical_stands : (k : Kind) (cpsr scr hcr : ℕ) → Good cpsr scr hcr
    → may_stand (mode_field cpsr) (goes k cpsr scr hcr) (SCR_NS scr) (HCR_TGE hcr) ≡ true
unfolding known
physical_stands k cpsr scr hcr g =
    let m = mode_field cpsr in
    let own = own_mode k in
    let ns = SCR_NS scr in
    let tge = HCR_TGE hcr in
    let r = R k scr in
    let om = M k hcr in
    let at : everywhere m own ≡ true =
    at_one own_modes (everywhere m) (at_one modes (λ m. every_of own_modes (everywhere m)) tried m g.known_mode) own (its_own_lem k) in
    implied (stands m ns tge) (may_stand m (goes_b m ns tge r om own) ns tge)
    (at_bit (keeps_physical m own ns tge r)
    (at_bit (λ r. every_bit (keeps_physical m own ns tge r))
    (at_bit (λ tge. every_bit (λ r. every_bit (keeps_physical m own ns tge r)))
    (at_bit (λ ns. every_bit (λ tge. every_bit (λ r. every_bit (keeps_physical m own ns tge r)))) at ns) tge) r) om)
    g.standing

-- a virtual exception is taken in Non-secure state with TGE 0, so its own mode may stand there
abbrev keeps_virtual : ℕ → ℕ → Bool → Bool → Bool
keeps_virtual m own ns tge = implies (not tge) (may_stand m own ns tge)

tried_virtual : every_of modes (λ m. every_of own_modes (λ own. every_bit (λ ns. every_bit (keeps_virtual m own ns)))) ≡ true
unfolding known el1
tried_virtual = refl

pub virtual_stands : (k : Kind) (cpsr scr hcr : ℕ) → Good cpsr scr hcr → not (HCR_TGE hcr) ≡ true
    → may_stand (mode_field cpsr) (own_mode k) (SCR_NS scr) (HCR_TGE hcr) ≡ true
unfolding known
virtual_stands k cpsr scr hcr g h =
    let m = mode_field cpsr in
    let own = own_mode k in
    let ns = SCR_NS scr in
    let tge = HCR_TGE hcr in
    implied (not tge) (may_stand m own ns tge)
    (at_bit (keeps_virtual m own ns)
    (at_bit (λ ns. every_bit (keeps_virtual m own ns))
    (at_one own_modes (λ own. every_bit (λ ns. every_bit (keeps_virtual m own ns)))
    (at_one modes (λ m. every_of own_modes (λ own. every_bit (λ ns. every_bit (keeps_virtual m own ns)))) tried_virtual m g.known_mode)
    own (its_own_lem k)) ns) tge)
    h
