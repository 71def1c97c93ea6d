-- What a step that no row refuses comes to can be carried out: its places lie in the block, its target has a saved state.
use Rattle.std.specs.Prelude.{Option, None, Some, if◌then◌else◌}
use mathlib.Core.Path.{◌≡◌, refl}
use mathlib.Core.Bool.{Bool, true, false, not, ◌||◌}
use mathlib.Core.List.{List}
use Prim.Native.Nat.{ℕ, ◌<◌, ◌^◌}
use native.Mathlib.Omega.{arith}
use lib.Dec.{leb, ltb}
use borrow.Author.Tests.{eqb-true, eqb-false, leb-false, ltb-true}
use Rattle.words.specs.Word.{word}
use Rattle.state.specs.Choice.{◌is◌}
use Rattle.state.specs.Mode.{targets, is_target}
use Rattle.state.specs.Number.{DONE}
use Rattle.state.proofs.Test.{at_one}
use Rattle.state.specs.Place.{PLACES, NO_PLACE, CPSR, PC, SCR, HCR}
use Rattle.entry.specs.Code.{is_synchronous}
use Rattle.entry.specs.Route.{wrap}
use Rattle.entry.specs.Route as synchronous
use Rattle.entry.specs.Way.{Way, Barred, Enter}
use Rattle.entry.proofs.Targets.{chosen, target_is_one}
use Rattle.entry.proofs.Targets as entry
use Rattle.interrupts.specs.Check as interrupt
use Rattle.interrupts.specs.Kind.{Kind, serror, fiq, irq}
use Rattle.interrupts.specs.declared.exception.Exception.{Exception}
use Rattle.interrupts.specs.declared.exception.Exception.TheVariants.{Synchronous, SError, Fiq, Irq}
use Rattle.interrupts.specs.declared.exception.Exception.TheVariants.{VirtualSError, VirtualFiq, VirtualIrq}
use Rattle.interrupts.proofs.Targets as interrupts
use Rattle.banked.specs.Cell.{cell}
use Rattle.banked.proofs.Cells.{cell_inside}
use Rattle.rules.specs.Event.{Event, BANKED_READ, BANKED_WRITE, NOTE, CELL_VALUES, bad_event}
use Rattle.rules.specs.Parts.{Sound}
use Rattle.rules.specs.Refusal.{refusal}
use Rattle.rules.proofs.Deciding.{by_code}
use Rattle.rules.proofs.Rows.{Passed, passed}
use Rattle.rules.specs.Step.{Refuse, Take, taken_by, routed_in, event_way, found_in, checked, done_action, action}

-- a way that is sound
abbrev pub SoundWay : Way → Type 0
SoundWay (Barred n) = Unit {0}
SoundWay (Enter to offset link) = Sound (Take Synchronous to offset link)

taken_sound : (x : Exception) (w : Way) → SoundWay w → Sound (taken_by x w)
taken_sound x (Barred n) h = tt
taken_sound x (Enter to offset link) h = h

-- every return address wraps at 2^32
wrapped : (x y : ℕ) → wrap x y < 2 ^ 32
wrapped x y = omega arith

synchronous_link : (code a cpsr scr hcr pc : ℕ) → synchronous.link code a cpsr scr hcr pc < 2 ^ 32
unfolding synchronous.link
synchronous_link code a cpsr scr hcr pc = wrapped _ _

synchronous_sound : (code a cpsr scr hcr pc : ℕ) → SoundWay (synchronous.way code a cpsr scr hcr pc)
unfolding synchronous.way
synchronous_sound code a cpsr scr hcr pc =
    chosen SoundWay (not (is_synchronous code) || synchronous.not_here code a cpsr scr) tt
    (chosen SoundWay (synchronous.disabled code cpsr scr hcr) tt (
      target_is_one code a cpsr scr hcr,
      entry.offset_small code a cpsr scr hcr,
      synchronous_link code a cpsr scr hcr pc,
    ))

physical_sound : (k : Kind) (cpsr scr hcr pc : ℕ) → SoundWay (interrupt.physical_way k cpsr scr hcr pc)
physical_sound k cpsr scr hcr pc = (interrupts.goes_target k cpsr scr hcr, interrupts.offset_small k _ _, wrapped _ _)

virtual_sound : (k : Kind) (pc : ℕ) → SoundWay (interrupt.virtual_way k pc)
virtual_sound k pc = (interrupts.own_target k, interrupts.own_small k, wrapped _ _)

pub interrupt_sound : (x : Exception) (cpsr scr hcr pc : ℕ) → SoundWay (interrupt.way x cpsr scr hcr pc)
unfolding interrupt.way
interrupt_sound Synchronous cpsr scr hcr pc = tt
interrupt_sound SError cpsr scr hcr pc = physical_sound serror cpsr scr hcr pc
interrupt_sound Fiq cpsr scr hcr pc = physical_sound fiq cpsr scr hcr pc
interrupt_sound Irq cpsr scr hcr pc = physical_sound irq cpsr scr hcr pc
interrupt_sound VirtualSError cpsr scr hcr pc = virtual_sound serror pc
interrupt_sound VirtualFiq cpsr scr hcr pc = virtual_sound fiq pc
interrupt_sound VirtualIrq cpsr scr hcr pc = virtual_sound irq pc

checked_sound : (lines cpsr scr hcr pc : ℕ) (f : Option Exception) → Sound (checked lines cpsr scr hcr pc f)
checked_sound lines cpsr scr hcr pc None = tt
checked_sound lines cpsr scr hcr pc (Some x) =
    taken_sound x (interrupt.way x cpsr scr hcr pc) (interrupt_sound x cpsr scr hcr pc)

-- the operands of a well formed event
or_left : (x y : Bool) → (x || y) ≡ false → x ≡ false
or_left true y h = h
or_left false y h = refl

a_below : (k a : ℕ) (t : Bool) → (leb k a || t) ≡ false → a < k
a_below k a t h = leb-false k a (or_left (leb k a) t h)

pub read_a : (a w : ℕ) → bad_event BANKED_READ a w ≡ false → a < CELL_VALUES
unfolding bad_event
read_a a w h = a_below CELL_VALUES a (not (w is 0)) h

pub write_a : (a w : ℕ) → bad_event BANKED_WRITE a w ≡ false → a < CELL_VALUES
unfolding bad_event
write_a a w h = a_below CELL_VALUES a false h

pub note_a : (a w : ℕ) → bad_event NOTE a w ≡ false → a < PLACES
unfolding bad_event
note_a a w h = a_below PLACES a false h

-- a register that a cell names lies in the block, below CPSR
pub inside_registers : (a : ℕ) → a < CELL_VALUES → (cell a is NO_PLACE) ≡ false → cell a < CPSR
inside_registers a l h = cell_inside a l (eqb-false (cell a) NO_PLACE h)

inside : (a : ℕ) → a < CELL_VALUES → (cell a is NO_PLACE) ≡ false → cell a < PLACES
inside a l h = let p = cell_inside a l (eqb-false (cell a) NO_PLACE h) in omega arith

done_sound : (b : List ℕ) (code a w : ℕ) → Passed b (record { code = code; a = a; b = w })
    → Sound (done_action b (record { code = code; a = a; b = w }))
done_sound b code a w p =
    by_code Sound b code a w
    (λ e. checked_sound a (word b CPSR) (word b SCR) (word b HCR) (word b PC) (found_in b a))
    (λ e. inside a (read_a a w (rw e at p.event)) (rw e at p.register))
    (λ e. inside a (write_a a w (rw e at p.event)) (rw e at p.register))
    (λ e. note_a a w (rw e at p.event))
    (λ e. tt)
    (λ o.
    taken_sound Synchronous (event_way b code a)
    (synchronous_sound code (routed_in b code a) (word b CPSR) (word b SCR) (word b HCR) (word b PC)))

pub action_sound : (b : List ℕ) (e : Event) → Sound (action b e)
unfolding action
action_sound b e = by (refusal b e is DONE) refl
  where
    by : (t : Bool) → (refusal b e is DONE) ≡ t → Sound (if t then done_action b e else Refuse (refusal b e))
    by true h = done_sound b e.code e.a e.b (passed b e (eqb-true (refusal b e) DONE h))
    by false h = tt

-- the number of a mode that an exception can be taken to
pub target_small : (m : ℕ) → is_target m ≡ true → m < 32
unfolding is_target
target_small m h = ltb-true m 32 (at_one targets (λ n. ltb n 32) refl m h)
