-- What an entry leaves, once over the target: word by word, from the words of the block before it.
use Rattle.std.specs.Prelude.{if◌then◌else◌}
use mathlib.Core.Path.{◌≡◌, refl, ap, ◌∙◌}
use mathlib.Core.Bool.{Bool, true, false, not, ◌&&◌}
use mathlib.Core.List.{List}
use Prim.Native.Nat.{ℕ, ◌*◌}
use native.Mathlib.Omega.{arith}
use lib.ListN.{length}
use borrow.Author.Tests.{eqb-true, eqb-false, not-false}
use Rattle.words.specs.Word.{word, put, Bytes}
use Rattle.words.proofs.Laws.{word-put_same, spelt_fits}
use Rattle.state.specs.Choice.{◌is◌}
use Rattle.state.specs.Field.{bits, without, mode_field}
use Rattle.state.specs.Mode.{is_target, spsr_place, lr_place}
use Rattle.state.specs.Number.{DONE}
use Rattle.state.specs.Place.{BLOCK_SIZE, CPSR, PC, SCR, HCR}
use Rattle.entry.specs.Enter.{ns_cleared, cpsr_after, control_place, vector_base, vector, entered}
use Rattle.entry.proofs.Keeps as entry
use Rattle.interrupts.specs.declared.exception.Exception.{Exception}
use Rattle.interrupts.specs.declared.exception.Exception.TheVariants.{Synchronous, SError, Fiq, Irq}
use Rattle.interrupts.specs.declared.exception.Exception.TheVariants.{VirtualSError, VirtualFiq, VirtualIrq}
use Rattle.rules.specs.declared.event.Event.{Event}
use Rattle.rules.specs.Refusal.{refusal}
use Rattle.rules.specs.Step.{Action, Refuse, Take, done_action, action, va_cleared, block_after, after}
use Rattle.rules.proofs.Carrying.{va_other}
use Rattle.rules.proofs.Rows.{passed}
use Rattle.rules.specs.Parts.{Sound}
use Rattle.rules.proofs.Sound.{action_sound}
use Rattle.entry.proofs.Entered.{spsr_low, lr_low}
use Rattle.state.specs.Mode.{MONITOR, HYP}
use Rattle.machine.specs.Claims.{scr_left, hcr_left}
use Rattle.machine.proofs.Goodness.{goods, Alike, alike_cleared, good_stays}

module _ (b : List ℕ) (e : Event) (bytes : Bytes b) (x : Exception) (to offset link : ℕ)
    (taken : action b e ≡ Take x to offset link) where
  is_done_lem : refusal b e ≡ DONE
  unfolding action
  is_done_lem = by (refusal b e is DONE) refl taken
    where
      by : (t : Bool) → (refusal b e is DONE) ≡ t → (if t then done_action b e else Refuse (refusal b e)) ≡ Take x to offset link
          → refusal b e ≡ DONE
      by true q h = eqb-true (refusal b e) DONE q
      by false q h = let z : ◌≡◌ {A = ℕ} 0 1 = cc in absurd (eqb-false 0 1 refl z)

  sized_block : length b ≡ BLOCK_SIZE
  sized_block = eqb-true (length b) BLOCK_SIZE (not-false (length b is BLOCK_SIZE) (passed b e is_done_lem).sized)

  sound : Sound (Take x to offset link)
  sound = told taken (action_sound b e)
    where
      told : {y : Action} → y ≡ Take x to offset link → Sound y → Sound (Take x to offset link)
      told q h = rw q at h

  a_target : is_target to ≡ true
  a_target = sound.0

  is_entered : after b e ≡ entered (va_cleared b x) to offset link
  unfolding after
  is_entered = ap (block_after b) taken

  abbrev v : List ℕ
  v = va_cleared b x

  at : (q : ℕ) → word (after b e) q ≡ word (entered v to offset link) q
  at q = ap (λ (l : List ℕ). word l q) is_entered

  alike : Alike b sized_block bytes v
  alike = alike_cleared b sized_block bytes x

  -- the target's SPSR takes the old CPSR word, whose bits 24 to 21 are zero
  pub saves : word (after b e) (spsr_place to) ≡ word b CPSR
  saves =
      at (spsr_place to) ∙ entry.saved_word_lem v to alike.0 alike.1.0 offset link a_target ∙ alike.1.1.0

  pub saves_clear : bits 24 21 (word (after b e) (spsr_place to)) ≡ 0
  saves_clear =
      ap (bits 24 21) saves ∙ eqb-true (bits 24 21 (word b CPSR)) 0 (goods b (good_stays b e bytes is_done_lem).0).clear

  -- the mode is the target's, and its return address is the link
  pub mode : mode_field (word (after b e) CPSR) ≡ to
  mode = ap mode_field (at CPSR) ∙ entry.mode_entered v to alike.0 alike.1.0 offset link a_target

  pub links : word (after b e) (lr_place to) ≡ link
  links = at (lr_place to) ∙ entry.return_word v to alike.0 alike.1.0 offset link a_target sound.2

  -- masks, T, E, IT, IL and the flags, and the vector: the whole words
  pub cpsr : word (after b e) CPSR
      ≡ cpsr_after (word b CPSR) (word (ns_cleared v to) SCR) (word (ns_cleared v to) (control_place (ns_cleared v to) to)) to
  cpsr =
      at CPSR ∙ entry.cpsr_word v to alike.0 alike.1.0 offset link a_target
      ∙ ap
      (λ (w : ℕ). cpsr_after w (word (ns_cleared v to) SCR) (word (ns_cleared v to) (control_place (ns_cleared v to) to)) to)
      alike.1.1.0

  pub vectored : word (after b e) PC
      ≡ vector (vector_base (ns_cleared v to) to (word (ns_cleared v to) (control_place (ns_cleared v to) to))) offset
  vectored = at PC ∙ entry.vector-word v to alike.0 alike.1.0 offset link a_target

  -- SCR is touched by the clearing of NS alone, HCR by that of VA
  va_hcr : (y : Exception) → word (va_cleared b y) HCR ≡ hcr_left b y
  va_hcr Synchronous = refl
  va_hcr SError = refl
  va_hcr Fiq = refl
  va_hcr Irq = refl
  va_hcr VirtualSError =
      let fits = spelt_fits b (4 * HCR) bytes in
      word-put_same b HCR (without 8 (word b HCR)) (omega (arith, sized_block)) (omega arith)
  va_hcr VirtualFiq = refl
  va_hcr VirtualIrq = refl

  ns_scr : word (ns_cleared v to) SCR ≡ scr_left v to
  unfolding ns_cleared
  ns_scr = by (mode_field (word v CPSR) is MONITOR && not (to is HYP))
    where
      by : (t : Bool)
          → word (if t then put v SCR (without 0 (word v SCR)) else v) SCR ≡ (if t then without 0 (word v SCR) else word v SCR)
      by true =
          let fits = spelt_fits v (4 * SCR) alike.1.0 in
          let size = alike.0 in
          word-put_same v SCR (without 0 (word v SCR)) (omega arith) (omega arith)
      by false = refl

  pub scr : word (after b e) SCR ≡ scr_left b to
  scr =
      at SCR ∙ entry.scr_word v to alike.0 alike.1.0 offset link a_target ∙ ns_scr
      ∙ rw (alike.1.1.0, alike.1.1.1.0)

  pub hcr : word (after b e) HCR ≡ hcr_left b x
  hcr =
      let s = spsr_low to a_target in
      let l = lr_low to a_target in
      at HCR
      ∙ entry.other_word v to alike.0 alike.1.0 offset link a_target HCR (λ q. omega arith) (λ q. omega arith)
      (λ q. omega arith) (λ q. omega arith) (λ q. omega arith)
      ∙ va_hcr x

  -- no other word is touched
  pub others : (q : ℕ) → (spsr_place to ≡ q → ⊥) → (lr_place to ≡ q → ⊥) → (CPSR ≡ q → ⊥) → (PC ≡ q → ⊥)
      → (SCR ≡ q → ⊥) → (HCR ≡ q → ⊥) → word (after b e) q ≡ word b q
  others q s l c p n h =
      at q ∙ entry.other_word v to alike.0 alike.1.0 offset link a_target q s l c p n ∙ va_other b x q h
