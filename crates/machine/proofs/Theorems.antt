-- What the step promises beyond its definition, each by name (docs/PROMISES.md): the numbers, what is left, the return, the
-- interrupt check, what an entry leaves, what the guest can learn, and the lines that a direct step does not know. The words of these
-- statements are in specs/Claims.antt, specs/RoundTrip.antt, specs/Guest.antt and specs/Lines.antt; the proofs stand in their own files.
use mathlib.Core.Path.{◌≡◌, refl, ap, ◌∙◌}
use mathlib.Core.Bool.{true, false}
use mathlib.Core.List.{List, [], ◌∷◌}
use mathlib.Core.Logic.{◌⊎◌, ◌↔◌}
use Prim.Native.Nat.{ℕ, ◌≤◌}
use lib.ListN.{length}
use Rattle.words.specs.Word.{word, put, Bytes}
use Rattle.words.proofs.Laws.{word-put_other}
use Rattle.state.specs.Field.{bits, mode_field, SCR_NS, SCR_SCD, SCR_HCE}
use Rattle.state.specs.Choice.{◌is◌}
use Rattle.state.specs.Mode.{USER, spsr_place, lr_place}
use Rattle.state.specs.Number.{DONE, NO_RIGHT, OWN_REGISTER}
use Rattle.state.specs.Place.{BLOCK_SIZE, CPSR, PC, SCR, HCR}
use Rattle.state.specs.State.{secure, fault}
use Rattle.entry.specs.Code.{SMC, HVC, is_synchronous, is_general}
use Rattle.entry.specs.Route.{trapped, disabled}
use Rattle.entry.specs.Enter.{ns_cleared, cpsr_after, control_place, vector_base, vector}
use Rattle.interrupts.specs.Exception.{order}
use Rattle.interrupts.specs.Kind.{Kind}
use Rattle.interrupts.specs.declared.exception.Exception.{Exception}
use Rattle.banked.specs.Cell.{cell}
use Rattle.banked.specs.Claims.{right_formerly}
use Rattle.banked.specs.Right.{own}
use Rattle.returns.specs.Level.{level}
use Rattle.returns.specs.Return.{is_illegal, saved_word, cpsr_returned, pc_returned}
use Rattle.rules.specs.Event.{INTERRUPT_CHECK, BANKED_READ, BANKED_WRITE, NOTE, RETURN}
use Rattle.rules.specs.Refusal.{rows, refusal}
use Rattle.rules.specs.Run.{run}
use Rattle.rules.specs.Step.{ANSWER_SIZE, Take, action, va_cleared, answer, after, answer_bytes, number_returned, block_left, answer_left}
use Rattle.rules.specs.Verdict.{value, refused_with}
use Rattle.rules.specs.declared.event.Event.{Event}
use Rattle.machine.specs.Claims.{FirstRow, rows_lent, Accesses, EntersAsRouted, OneOf, TheFirst, CanBeTaken, EntersBy, Takes}
use Rattle.machine.specs.Claims.{TakesNothing, Decided, debug_trapped_in, DebugToHyp, AsPlain, scr_left, hcr_left}
use Rattle.machine.specs.Guest.{GuestTheorems}
use Rattle.machine.specs.Lines.{LineTheorems}
use Rattle.machine.specs.RoundTrip.{KeepsMode, back, RoundTrip}
use Rattle.machine.proofs.Checking as checking
use Rattle.machine.proofs.Debugging as debugging
use Rattle.machine.proofs.Denying as denying
use Rattle.machine.proofs.Differing as differing
use Rattle.machine.proofs.Entering as entering
use Rattle.machine.proofs.Goodness as goodness
use Rattle.machine.proofs.Guest as guest
use Rattle.machine.proofs.Laws.{number_is}
use Rattle.machine.proofs.Leaving as leaving
use Rattle.machine.proofs.Lines as lines
use Rattle.machine.proofs.Numbers as numbers
use Rattle.machine.proofs.Returning.{general_synchronous}
use Rattle.machine.proofs.Returning as returning
use Rattle.machine.proofs.Tabled as tabling

-- ---- the step that C calls is the step: over buffers that have their sizes

pub lent_step : (b : List ℕ) (e : Event) (m : List ℕ) → length b ≡ BLOCK_SIZE → length m ≡ ANSWER_SIZE
    → (number_returned b e m ≡ (answer b e).number) × (block_left b e m ≡ after b e) × (answer_left b e m ≡ answer_bytes (answer b e))
lent_step = leaving.lent

-- ---- each number is given exactly when its row applies and no row before it does

-- of the step over an answer buffer, row 1 with its second half
pub number_exactly : (b : List ℕ) (e : Event) (m : List ℕ) (n : ℕ) → (number_returned b e m ≡ n) ↔ FirstRow (rows_lent b e m) n
number_exactly = numbers.returned_exactly

-- of the step that answers by value
pub answer_exactly : (b : List ℕ) (e : Event) (n : ℕ) → ((answer b e).number ≡ n) ↔ FirstRow (rows b e) n
answer_exactly = numbers.answered_exactly

-- ---- what a step leaves

-- a refused step: its number, the value 0, and every byte
pub refused_leaves : (b : List ℕ) (e : Event) → (refusal b e ≡ DONE → ⊥)
    → (answer b e ≡ refused_with (refusal b e)) × (after b e ≡ b)
refused_leaves = leaving.refused_leaves

-- a done step started from a good block and leaves one
pub good_stays : (b : List ℕ) (e : Event) → Bytes b → refusal b e ≡ DONE → (fault b ≡ DONE) × (fault (after b e) ≡ DONE)
good_stays = goodness.good_stays

module _ (b : List ℕ) (e : Event) (done : refusal b e ≡ DONE) where
  -- a read answers the register's word, and changes no word
  pub read_tells : e.code ≡ BANKED_READ → answer b e ≡ record { number = DONE; value = word b (cell e.a) }
  unfolding value
  read_tells = leaving.read_tells b e done

  pub read_leaves_lem : e.code ≡ BANKED_READ → after b e ≡ b
  read_leaves_lem = leaving.read_leaves_lem b e done

  -- a write puts B into the register's place, and no other word changes, PC included
  pub write_leaves_lem : e.code ≡ BANKED_WRITE → after b e ≡ put b (cell e.a) e.b
  write_leaves_lem = leaving.write_leaves_lem b e done

  pub write_others : e.code ≡ BANKED_WRITE → (q : ℕ) → (cell e.a ≡ q → ⊥) → word (after b e) q ≡ word b q
  write_others c q n = rw (write_leaves_lem c) (word-put_other b (cell e.a) e.b q n)

  -- so does a note, at its place
  pub note_leaves : e.code ≡ NOTE → after b e ≡ put b e.a e.b
  note_leaves = leaving.note_leaves b e done

  -- and both answer 0
  pub write_tells : e.code ≡ BANKED_WRITE → answer b e ≡ record { number = DONE; value = 0 }
  unfolding value
  write_tells = leaving.write_tells b e done

  pub note_tells : e.code ≡ NOTE → answer b e ≡ record { number = DONE; value = 0 }
  unfolding value
  note_tells = leaving.note_tells b e done

  pub note_others : e.code ≡ NOTE → (q : ℕ) → (e.a ≡ q → ⊥) → word (after b e) q ≡ word b q
  note_others c q n = rw (note_leaves c) (word-put_other b e.a e.b q n)

-- ---- demand 2 of codes 1 to 8: such an event that no row refuses enters as its routing says, in target, offset and link

pub enters_as_routed : (b : List ℕ) (e : Event) → refusal b e ≡ DONE → is_synchronous e.code ≡ true → EntersAsRouted b e
enters_as_routed = leaving.enters_as_routed

-- No. 11 of document 02: a debug abort from Non-secure User or NS EL1 with TDE 1 enters Hyp at 0x14; else it is as A 0
pub debug_to_hyp : (b : List ℕ) → length b ≡ BLOCK_SIZE → fault b ≡ DONE → debug_trapped_in b ≡ true → DebugToHyp b
debug_to_hyp = debugging.debug_to_hyp

pub debug_as_plain : (b : List ℕ) → debug_trapped_in b ≡ false → AsPlain b
debug_as_plain = debugging.debug_as_plain

-- No. 8 of document 02: an SMC that is done had SCD 0, or was trapped by TSC; an HVC that is done had HCE 1
pub smc_enabled : (b : List ℕ) (e : Event) → refusal b e ≡ DONE → e.code ≡ SMC
    → (SCR_SCD (word b SCR) ≡ false) ⊎ (trapped SMC (word b CPSR) (word b SCR) (word b HCR) ≡ true)
smc_enabled = leaving.smc_enabled

-- and the trap goes before SCD: where it traps, SCD bars nothing
pub trap_first : (cpsr scr hcr : ℕ) → trapped SMC cpsr scr hcr ≡ true → disabled SMC cpsr scr hcr ≡ false
trap_first = leaving.trap_first

pub hvc_enabled : (b : List ℕ) (e : Event) → refusal b e ≡ DONE → e.code ≡ HVC → SCR_HCE (word b SCR) ≡ true
hvc_enabled = leaving.hvc_enabled

-- ---- a denied access (document 02, No. 10): `Accesses` is one that hangs on its right alone

module _ (b : List ℕ) (e : Event) where
  abbrev mode : ℕ
  mode = mode_field (word b CPSR)

  -- exactly the accesses that were NO_RIGHT are now NO_RIGHT or OWN_REGISTER: nothing is newly allowed or denied
  pub denied_exactly : (((answer b e).number ≡ NO_RIGHT) ⊎ ((answer b e).number ≡ OWN_REGISTER))
      ↔ (Accesses b e × (right_formerly (cell e.a) (word b CPSR) (word b SCR) ≡ NO_RIGHT))
  denied_exactly = rw (number_is b e) (denying.denied_exactly b e)

  -- OWN_REGISTER exactly on the list of current mode registers, User's left out
  pub own_exactly : ((answer b e).number ≡ OWN_REGISTER)
      ↔ (Accesses b e × ((mode is USER) ≡ false) × (own (cell e.a) mode ≡ true))
  own_exactly = rw (number_is b e) (denying.own_exactly b e)

  -- "any register from User is 7"
  pub from_user : Accesses b e → (mode is USER) ≡ true → (answer b e).number ≡ NO_RIGHT
  from_user x h = number_is b e ∙ denying.from_user b e x h

-- ---- the return (document 02, No. 9): of a step that no row refuses and whose code is 13

module _ (b : List ℕ) (e : Event) (bytes : Bytes b) (done : refusal b e ≡ DONE) (return : e.code ≡ RETURN) where
  -- CPSR and PC are as the rules say, the value is 0, and no other word changes
  pub return_cpsr : word (after b e) CPSR ≡ cpsr_returned b
  return_cpsr = returning.done_cpsr b e bytes done return

  pub return_pc : word (after b e) PC ≡ pc_returned b e.a
  return_pc = returning.done_pc b e bytes done return

  pub return_tells : answer b e ≡ record { number = DONE; value = 0 }
  unfolding value
  return_tells = leaving.return_tells b e done return

  pub return_others : (q : ℕ) → (CPSR ≡ q → ⊥) → (PC ≡ q → ⊥) → word (after b e) q ≡ word b q
  return_others = returning.done_others b e bytes done return

  -- it is illegal exactly by the list: CPSR is the saved word exactly where no row applies, and where one does the mode stays
  pub return_exactly : (word (after b e) CPSR ≡ saved_word b)
      ↔ (is_illegal (word b CPSR) (word b SCR) (word b HCR) (saved_word b) ≡ false)
  return_exactly = returning.legal_exactly b e bytes done return

  pub return_keeps_mode : is_illegal (word b CPSR) (word b SCR) (word b HCR) (saved_word b) ≡ true
      → KeepsMode (word b CPSR) (saved_word b) (word (after b e) CPSR)
  return_keeps_mode = returning.illegal_keeps b e bytes done return

  -- it never raises the Exception level, and never leaves Non-secure for Secure
  pub return_never_rises : level (mode_field (word (after b e) CPSR)) (SCR_NS (word (after b e) SCR))
      ≤ level (mode_field (word b CPSR)) (SCR_NS (word b SCR))
  return_never_rises = returning.never_rises b e bytes done return

  pub return_never_secure : secure (word b CPSR) (word b SCR) ≡ false → secure (word (after b e) CPSR) (word (after b e) SCR) ≡ false
  return_never_secure = returning.never_secure b e bytes done return

-- behind every synchronous entry from a good block, whatever IT and IL were, the return with the manual's subtraction is done,
-- restores CPSR, every bit of it, and goes to the preferred return address, aligned by T
pub round_trip : (b : List ℕ) (e : Event) → Bytes b → refusal b e ≡ DONE → is_synchronous e.code ≡ true → RoundTrip b e
round_trip = returning.round_trip

-- in the words of No. 9: mode and masks, for each of codes 1, 2, 5, 6
pub round_trip_restores : (b : List ℕ) (e : Event) → Bytes b → refusal b e ≡ DONE → is_general e.code ≡ true
    → let w = word (run b (e ∷ back b e ∷ [])) CPSR in
    (mode_field w ≡ mode_field (word b CPSR)) × (bits 8 6 w ≡ bits 8 6 (word b CPSR))
round_trip_restores b e bytes done g =
    let whole = (round_trip b e bytes done (general_synchronous e.code g)).cpsr in
    (ap mode_field whole, ap (bits 8 6) whole)

-- ---- demand 2 of the interrupt check: of a step that no row refuses and whose code is 9

module _ (b : List ℕ) (e : Event) (done : refusal b e ≡ DONE) (check : e.code ≡ INTERRUPT_CHECK) where
  -- it takes an exception exactly when one of the six is pending and not masked under its routing
  pub check_exactly : Takes b e ↔ OneOf (CanBeTaken b e) order
  check_exactly = checking.exactly b e done check

  -- the one that it takes is the first in the order that is so
  pub check_first : (x : Exception) → EntersBy b e x → TheFirst (CanBeTaken b e) order x
  check_first = checking.the_first b e done check

  -- where none is so nothing is taken, the value is 0, and every byte is as it was
  pub check_quiet : (OneOf (CanBeTaken b e) order → ⊥) → TakesNothing b e
  check_quiet = checking.quiet b e done check

-- the decision table: of each kind and every good block, whether a check with its line alone takes the physical exception, and
-- where it goes
pub tabled : (k : Kind) (b : List ℕ) → length b ≡ BLOCK_SIZE → fault b ≡ DONE → Decided k b
tabled = tabling.decided

-- ---- what an entry leaves, once over the target

module _ (b : List ℕ) (e : Event) (bytes : Bytes b) (x : Exception) (to offset link : ℕ)
    (taken : action b e ≡ Take x to offset link) where
  -- the block with NS as it is after the entry
  abbrev c : List ℕ
  c = ns_cleared (va_cleared b x) to

  -- the target's SPSR takes the old CPSR word, whose bits 24 to 21 are zero
  pub entry_saves : word (after b e) (spsr_place to) ≡ word b CPSR
  entry_saves = entering.saves b e bytes x to offset link taken

  pub entry_saves_clear : bits 24 21 (word (after b e) (spsr_place to)) ≡ 0
  entry_saves_clear = entering.saves_clear b e bytes x to offset link taken

  -- the mode is the target's, and its return address is the link
  pub entry_mode : mode_field (word (after b e) CPSR) ≡ to
  entry_mode = entering.mode b e bytes x to offset link taken

  pub entry_links : word (after b e) (lr_place to) ≡ link
  entry_links = entering.links b e bytes x to offset link taken

  -- masks, T, E, IT, IL and the flags, and the vector: the whole words
  pub entry_cpsr : word (after b e) CPSR ≡ cpsr_after (word b CPSR) (word c SCR) (word c (control_place c to)) to
  entry_cpsr = entering.cpsr b e bytes x to offset link taken

  pub entry_vector : word (after b e) PC ≡ vector (vector_base c to (word c (control_place c to))) offset
  entry_vector = entering.vectored b e bytes x to offset link taken

  -- SCR is as it was but for NS, cleared exactly from Monitor to a mode other than Hyp; HCR is as it was but for VA, cleared
  -- exactly when virtual SError is taken
  pub entry_scr : word (after b e) SCR ≡ scr_left b to
  entry_scr = entering.scr b e bytes x to offset link taken

  pub entry_hcr : word (after b e) HCR ≡ hcr_left b x
  entry_hcr = entering.hcr b e bytes x to offset link taken

  -- no other word changes
  pub entry_others : (q : ℕ) → (spsr_place to ≡ q → ⊥) → (lr_place to ≡ q → ⊥) → (CPSR ≡ q → ⊥)
      → (PC ≡ q → ⊥) → (SCR ≡ q → ⊥) → (HCR ≡ q → ⊥) → word (after b e) q ≡ word b q
  entry_others = entering.others b e bytes x to offset link taken

  -- the half-written entry: a block with the right mode and a stale saved state is not what the step leaves
  pub stale_is_none : (l : List ℕ) → (word l (spsr_place to) ≡ word b CPSR → ⊥) → l ≡ after b e → ⊥
  stale_is_none l n h = n (ap (λ (k : List ℕ). word k (spsr_place to)) h ∙ entry_saves)

-- ---- what the guest can learn (document 02, No. 12)

pub guest_learns : GuestTheorems
guest_learns =
    record {
      numbered = refl;
      nothing_carried = guest.nothing_carried;
      any_word_inside = guest.any_word_inside;
      example = differing.example;
      monitor_learns = differing.monitor_learns;
      place_tells = differing.place_tells;
    }

-- ---- No. 13 of document 02: the virtual lines, which a direct step refuses on a good block, and every other event

pub lines_retired : LineTheorems
lines_retired = lines.theorems
