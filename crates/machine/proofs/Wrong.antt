-- Two functions that meet the contract of the step agree, and five wrong ones do not meet it: one that only refuses, one that
-- answers always the same, one that moves nothing, one whose entries skip the SPSR, one that still knows the virtual lines.
use mathlib.Core.Path.{◌≡◌, refl, sym, ap, ◌∙◌}
use mathlib.Core.List.{List, [], ◌∷◌}
use Prim.Native.Nat.{ℕ, zero, suc, ◌<◌, ◌^◌}
use lib.Dec.{lit<}
use lib.ListN.{length, replicate}
use borrow.Author.Tests.{eqb-false}
use Rattle.words.specs.Word.{spelt, word, put, Bytes}
use Rattle.words.proofs.Laws.{length-put, bytes_put}
use Rattle.state.specs.Mode.{IRQ, known, el1, spsr_place, lr_place}
use Rattle.state.specs.Number.{DONE, BAD_EVENT}
use Rattle.state.specs.Place.{BLOCK_SIZE, CPSR}
use Rattle.state.specs.State.{good}
use Rattle.entry.specs.Offset as offsets
use Rattle.entry.specs.Enter.{ns_cleared, masks_after, cpsr_after, vector_base, written, entered}
use Rattle.interrupts.specs.Check as interrupt
use Rattle.interrupts.specs.Masking.{obeyed}
use Rattle.interrupts.specs.Takeable.{pending, masked, takeable}
use Rattle.interrupts.specs.declared.exception.Exception.{Exception}
use Rattle.interrupts.specs.declared.exception.Exception.TheVariants.{Irq}
use Rattle.rules.specs.Event.{bad_event}
use Rattle.rules.specs.Known.{seen, direct}
use Rattle.rules.specs.declared.event.Event.{Event}
use Rattle.rules.specs.Refusal.{refusal}
use Rattle.rules.specs.Step.{ANSWER_SIZE, Action, Take, Quiet, done_action, action, answer_to, block_after, answer_bytes}
use Rattle.rules.specs.Step.{answer, after, number_returned, block_left, answer_left}
use Rattle.rules.specs.Verdict.{value}
use Rattle.machine.specs.Claims.{Stepper, Given, Meets}
use Rattle.machine.specs.Lines.{check_of}
use Rattle.machine.proofs.Cases.{Words, block, with}
use Rattle.machine.proofs.Replay.{cleared}

pub meets_once : (f g : Stepper) → Meets f → Meets g → (b : List ℕ) (e : Event) (m : List ℕ) → Given b e m
    → (f.number b e m ≡ g.number b e m) × (f.block b e m ≡ g.block b e m) × (f.buffer b e m ≡ g.buffer b e m)
meets_once f g p q b e m h = (
  p.returns b e m h ∙ sym (q.returns b e m h),
  p.leaves b e m h ∙ sym (q.leaves b e m h),
  p.answers b e m h ∙ sym (q.answers b e m h),
)

-- ---- two blocks that a caller can give

-- a good block on which an IRQ is taken (case a but for its vector base), and the block of case c, on which none is
abbrev taking : List ℕ
taking = block (with 1 0x13)

abbrev quiet : List ℕ
quiet = block (with 3 0x93)

-- a check of the line IRQ, and one of the line virtual IRQ
abbrev irq_line : Event
irq_line = check_of 4 0

abbrev virtual_line : Event
virtual_line = check_of 16 0

zero_bytes : (n : ℕ) → Bytes (replicate n 0)
zero_bytes zero i = lit< tt
zero_bytes (suc n) zero = lit< tt
zero_bytes (suc n) (suc i) = zero_bytes n i

block_bytes : (xs : Words) → Bytes (block xs)
block_bytes [] = zero_bytes BLOCK_SIZE
block_bytes (x ∷ xs) = bytes_put (block xs) x.0 x.1 (block_bytes xs)

block_size : (xs : Words) → length (block xs) ≡ BLOCK_SIZE
block_size [] = refl
block_size (x ∷ xs) = length-put (block xs) x.0 x.1 ∙ block_size xs

given_lines : (xs : Words) (lines : ℕ) → lines < 2 ^ 32 → Given (block xs) (check_of lines 0) cleared
given_lines xs lines h =
    record {
      block_bytes = block_bytes xs;
      buffer_bytes = zero_bytes ANSWER_SIZE;
      code_fits = lit< tt;
      a_fits = h;
      b_fits = lit< tt;
    }

given : (xs : Words) → Given (block xs) irq_line cleared
given xs = given_lines xs 4 (lit< tt)

-- ---- what the step does to them

quiet_step : action quiet irq_line ≡ Quiet 4
unfolding spelt put known el1 good obeyed pending masked takeable interrupt.found bad_event refusal done_action action
quiet_step = refl

goes : action taking irq_line ≡ Take Irq IRQ offsets.IRQ 0x8004
unfolding spelt put known el1 good obeyed pending masked takeable interrupt.found interrupt.way bad_event refusal done_action action
goes = refl

quiet_done : number_returned quiet irq_line cleared ≡ DONE
unfolding put answer number_returned
quiet_done = ap (λ (x : Action). (answer_to quiet x).number) quiet_step

quiet_tells : word (answer_left quiet irq_line cleared) 1 ≡ 0
unfolding spelt put value answer answer_left
quiet_tells = ap (λ (x : Action). word (answer_bytes (answer_to quiet x)) 1) quiet_step

taking_tells : word (answer_left taking irq_line cleared) 1 ≡ 0x31218
unfolding spelt put value answer answer_left
taking_tells = ap (λ (x : Action). word (answer_bytes (answer_to taking x)) 1) goes

-- the mode after the IRQ is taken is IRQ mode, and the old CPSR is saved
left : (p : ℕ) → word (block_left taking irq_line cleared) p ≡ word (entered taking IRQ offsets.IRQ 0x8004) p
unfolding put after block_left
left p = ap (λ (x : Action). word (block_after taking x) p) goes

moved : word (block_left taking irq_line cleared) CPSR ≡ 0x192
unfolding spelt put known el1 spsr_place lr_place ns_cleared masks_after cpsr_after vector_base written entered
moved = left CPSR

saved : word (block_left taking irq_line cleared) (spsr_place IRQ) ≡ 0x13
unfolding spelt put known el1 spsr_place lr_place ns_cleared masks_after cpsr_after vector_base written entered
saved = left (spsr_place IRQ)

stood : word taking CPSR ≡ 0x13
unfolding spelt put
stood = refl

stale : word taking (spsr_place IRQ) ≡ 0
unfolding spelt put spsr_place
stale = refl

-- ---- the wrong steps

-- the event is one that a direct step knows
known_line : direct irq_line ≡ irq_line
unfolding seen
known_line = refl

-- the line that is retired: the machine checks it, a direct step does not know it
done_by_the_machine : number_returned quiet virtual_line cleared ≡ DONE
unfolding spelt put known el1 good obeyed pending masked takeable interrupt.found bad_event refusal done_action action answer
    number_returned
done_by_the_machine = refl

refused_directly : number_returned quiet (direct virtual_line) cleared ≡ BAD_EVENT
unfolding seen spelt put known el1 good bad_event refusal action answer number_returned
refused_directly = refl

module _ (f : Stepper) (p : Meets f) where
  -- what it returns and leaves for that event, on a block with these words
  returns : (xs : Words) → f.number (block xs) irq_line cleared ≡ number_returned (block xs) irq_line cleared
  returns xs = p.returns (block xs) irq_line cleared (given xs) ∙ ap (λ e. number_returned (block xs) e cleared) known_line

  leaves : (xs : Words) → f.block (block xs) irq_line cleared ≡ block_left (block xs) irq_line cleared
  leaves xs = p.leaves (block xs) irq_line cleared (given xs) ∙ ap (λ e. block_left (block xs) e cleared) known_line

  tells : (xs : Words) → f.buffer (block xs) irq_line cleared ≡ answer_left (block xs) irq_line cleared
  tells xs = p.answers (block xs) irq_line cleared (given xs) ∙ ap (λ e. answer_left (block xs) e cleared) known_line

  pub not_only_refusing : ((b : List ℕ) (e : Event) (m : List ℕ) → Given b e m → f.number b e m ≡ DONE → ⊥) → ⊥
  not_only_refusing h =
      h quiet irq_line cleared (given (with 3 0x93)) (returns (with 3 0x93) ∙ quiet_done)

  -- the answer to an event is the same on every block of its size
  pub not_always_the_same : ((b b' : List ℕ) (e : Event) (m : List ℕ) → Given b e m → Given b' e m → length b ≡ BLOCK_SIZE
      → length b' ≡ BLOCK_SIZE → f.buffer b e m ≡ f.buffer b' e m) → ⊥
  not_always_the_same h =
      let q = given (with 3 0x93) in
      let t = given (with 1 0x13) in
      let same = h quiet taking irq_line cleared q t (block_size (with 3 0x93)) (block_size (with 1 0x13)) in
      let told = sym (tells (with 3 0x93)) ∙ same ∙ tells (with 1 0x13) in
      eqb-false 0 0x31218 refl (sym quiet_tells ∙ ap (λ (m : List ℕ). word m 1) told ∙ taking_tells)

  pub not_moving_nothing : ((b : List ℕ) (e : Event) (m : List ℕ) → Given b e m → f.block b e m ≡ b) → ⊥
  not_moving_nothing h =
      let left = sym (leaves (with 1 0x13)) ∙ h taking irq_line cleared (given (with 1 0x13)) in
      eqb-false 0x192 0x13 refl (sym moved ∙ ap (λ (b : List ℕ). word b CPSR) left ∙ stood)

  -- every entry leaves the target's SPSR as it was
  pub not_skipping_spsr : ((b : List ℕ) (e : Event) (m : List ℕ) → Given b e m → (x : Exception) (to offset link : ℕ)
      → action b e ≡ Take x to offset link → word (f.block b e m) (spsr_place to) ≡ word b (spsr_place to)) → ⊥
  not_skipping_spsr h =
      let left = sym (leaves (with 1 0x13)) in
      let skipped = h taking irq_line cleared (given (with 1 0x13)) Irq IRQ offsets.IRQ 0x8004 goes in
      eqb-false 0x13 0 refl (sym saved ∙ ap (λ (b : List ℕ). word b (spsr_place IRQ)) left ∙ skipped ∙ stale)

  -- the machine's step, of whatever event it is given
  pub not_with_the_lines : ((b : List ℕ) (e : Event) (m : List ℕ) → Given b e m → f.number b e m ≡ number_returned b e m) → ⊥
  not_with_the_lines h =
      let g = given_lines (with 3 0x93) 16 (lit< tt) in
      let same = sym (h quiet virtual_line cleared g) ∙ p.returns quiet virtual_line cleared g in
      eqb-false BAD_EVENT DONE refl (sym refused_directly ∙ sym same ∙ done_by_the_machine)
