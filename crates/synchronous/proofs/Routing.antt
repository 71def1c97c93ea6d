-- A synchronous event on a good block, by how its tests went: it is refused, or taken, as the rules say. Each law is stated
-- over the code of the event.
use Rattle.std.proofs.Common.{◌≡◌, ℕ, ◌^◌, ◌<◌, Bool, true, false, not, ◌&&◌, ◌||◌, leb, ltb, nat_eq, Result, Err, List, length}
use Rattle.std.proofs.Common.{sym, refl, ap, ◌∙◌, ltb-true, ltb-false}
use Rattle.std.proofs.lemmas.Bool.{lt-leb, le-leb}
use Rattle.words.specs.Word.{word, Bytes}
use Rattle.words.proofs.Laws.{spelt_fits}
use Rattle.state.specs.Choice.{◌is◌}
use Rattle.state.specs.Field.{mode_field, SCR_EA}
use Rattle.state.specs.Mode.{HYP, MONITOR, ABORT}
use Rattle.state.specs.Place.{BLOCK_SIZE, CPSR, PC, SCR, HCR, HDCR}
use Rattle.state.specs.Refusal.{number}
use Rattle.state.specs.State.{secure}
use Rattle.state.specs.declared.mode.Mode.{Mode}
use Rattle.state.specs.declared.refusal.Refusal.{Refusal}
use Rattle.state.specs.declared.refusal.Refusal.TheVariants.{BadEvent, NotHere}
use Rattle.state.specs.declared.state.Status.{Status}
use Rattle.state.proofs.Sets.{among_append}
use Rattle.entry.specs.Code.{synchronous_codes, other_codes, is_synchronous, external, stage2}
use Rattle.entry.specs.Parts.{general_to_hyp, abort_way}
use Rattle.entry.specs.Route.{wrap, offset_to, routed_a, way}
use Rattle.entry.specs.Way.{Way, Barred, Enter}
use Rattle.interrupts.specs.declared.exception.Exception.TheVariants.{Synchronous}
use Rattle.rules.specs.Event.{BANKED_WRITE, NOTE, RETURN, values_of_a, bad_event}
use Rattle.rules.specs.Parts.{Ready, CameTo, abort_more}
use Rattle.rules.specs.Step.{Action, taken_by, routed_in, action}
use Rattle.rules.specs.declared.verdict.Verdict.{Verdict}
use Rattle.rules.proofs.Carrying.{same_action, refused}
use Rattle.rules.proofs.Deciding.{event, other, bad_event_lem, at_synchronous}

-- of two tests the first fails, so that the second tells
pub second_tells : {x y t : Bool} → x ≡ false → y ≡ t → (x || y) ≡ t
second_tells p q = rw (p, q)

-- a test of the mode tells of CPSR
pub told_mode : (cpsr k : ℕ) {m : Mode} {r t : Bool} → m ≡ record { number = mode_field cpsr } → r ≡ nat_eq m.number k → r ≡ t
    → (mode_field cpsr is k) ≡ t
told_mode cpsr k e h t = sym (ap (λ (n : Mode). n.number is k) e) ∙ sym h ∙ t

-- an address with a number added that is the same
pub added : (pc : ℕ) {n k : ℕ} → n ≡ k → wrap pc n ≡ wrap pc k
added pc e = ap (wrap pc) e

-- what is not below a bound reaches it
not_below : (a k : ℕ) (z : Bool) → (leb k a || not z) ≡ not (ltb a k && z)
not_below a k z = by (ltb a k) refl
  where
    by : (t : Bool) → ltb a k ≡ t → (leb k a || not z) ≡ not (t && z)
    by true e = rw (lt-leb k a (ltb-true a k e))
    by false e = rw (le-leb k a (ltb-false a k e))

operands : (code a w : ℕ) → is_synchronous code ≡ true → bad_event code a w ≡ (leb (values_of_a code) a || not (w is 0))
unfolding bad_event
operands code a w k =
    rw (among_append code synchronous_codes other_codes, k, other code k BANKED_WRITE refl, other code k NOTE refl)

-- so what `are_within` answered tells of an event of this code
badly_formed : (code a w : ℕ) {r : Bool} → is_synchronous code ≡ true → r ≡ (ltb a (values_of_a code) && w is 0)
    → bad_event code a w ≡ not r
badly_formed code a w k e = operands code a w k ∙ not_below a (values_of_a code) (w is 0) ∙ ap not (sym e)

-- the operands of an event of this code are out of their range, by what `are_within` answered
pub beyond_range : (code a w : ℕ) {b : List ℕ} {status : Status} {r : Bool} → is_synchronous code ≡ true → Ready b status
    → length b ≡ BLOCK_SIZE → r ≡ (ltb a (values_of_a code) && w is 0) → r ≡ false
    → CameTo b (action b (event code a w)) (Err BadEvent) b
beyond_range code a w {b} k ready size e t =
    refused b BadEvent
    (bad_event_lem b a w size ready.1 code (other code k RETURN refl) (badly_formed code a w k e ∙ ap not t))

-- they are in their range, on a good block with two of its words
pub record Asked (code : ℕ) (b : List ℕ) (status : Status) (a w : ℕ) : Type 0 where
  pub kind : is_synchronous code ≡ true
  pub ready : Ready b status
  pub size : length b ≡ BLOCK_SIZE
  pub well_formed : bad_event code a w ≡ false

pub in_range : {code : ℕ} {b : List ℕ} {status : Status} {a w : ℕ} {r : Bool} → is_synchronous code ≡ true → Ready b status
    → length b ≡ BLOCK_SIZE → r ≡ (ltb a (values_of_a code) && w is 0) → r ≡ true → Asked code b status a w
in_range {code} {a = a} {w = w} k ready size e t =
    record { kind = k; ready = ready; size = size; well_formed = badly_formed code a w k e ∙ ap not t }

-- the two words more that a routing asks, as they were read; those that were not read are the block's own
pub record Read (b : List ℕ) (hcr pc : ℕ) : Type 0 where
  pub hcr_read : hcr ≡ word b HCR
  pub pc_read : pc ≡ word b PC
  pub fits : pc < 2 ^ 32

pub as_read : {b : List ℕ} {hcr pc : ℕ} → hcr ≡ word b HCR → pc ≡ word b PC → pc < 2 ^ 32 → Read b hcr pc
as_read h p f = record { hcr_read = h; pc_read = p; fits = f }

pub unread : (b : List ℕ) → Bytes b → Read b (word b HCR) (word b PC)
unread b h = as_read refl refl (spelt_fits b _ h)

module _ {code : ℕ} {b : List ℕ} {status : Status} {a w : ℕ} (e : Asked code b status a w) where
  -- the A that it is routed by: its own, but for a debug abort that is trapped
  abbrev pub its_a : ℕ
  its_a = routed_a code a status.cpsr status.scr (word b HDCR)

  routed : {x : Way} {hcr pc : ℕ} → Read b hcr pc → x ≡ way code its_a status.cpsr status.scr hcr pc
      → taken_by Synchronous x ≡ action b (event code a w)
  routed {x} d h =
      let words : x ≡ way code (routed_in b code a) (word b CPSR) (word b SCR) (word b HCR) (word b PC) =
      rw (← e.ready.0.0, ← e.ready.0.1, ← d.hcr_read, ← d.pc_read) h in
      ap (taken_by Synchronous) words
      ∙ at_synchronous b a w e.size e.ready.1 code e.well_formed e.kind

  -- barred, by the words that were read
  pub barred : {hcr pc : ℕ} (r : Refusal) → Read b hcr pc → Barred (number r) ≡ way code its_a status.cpsr status.scr hcr pc
      → CameTo b (action b (event code a w)) (Err r) b
  barred r d h = refused b r (routed d h)

  -- on what the rules call its way
  pub on_its_way : {x : Way} {hcr pc : ℕ} {o : Result Verdict Refusal} {l : List ℕ} → Read b hcr pc
      → x ≡ way code its_a status.cpsr status.scr hcr pc → CameTo b (taken_by Synchronous x) o l
      → CameTo b (action b (event code a w)) o l
  on_its_way d h t = same_action b (routed d h) t

-- an abort that asks for a stage 2 where there is none
abbrev lacking : ℕ → ℕ → ℕ → Bool
lacking a cpsr scr = stage2 a && (secure cpsr scr || mode_field cpsr is HYP)

-- an abort at its own offset, by the words of a block
abbrev Abort : ℕ → List ℕ → ℕ → ℕ → ℕ → Action
Abort own b a cpsr scr = taken_by Synchronous (abort_way own (abort_more own) a cpsr scr (word b HCR) (word b PC))

pub abort_not_here : (own : ℕ) (b : List ℕ) (a cpsr scr : ℕ) → lacking a cpsr scr ≡ true
    → CameTo b (Abort own b a cpsr scr) (Err NotHere) b
unfolding abort_way
abort_not_here own b a cpsr scr h = refused b NotHere {y = Abort own b a cpsr scr} (rw h)

-- one on its way, by the words that were read
pub aborted : (own a cpsr scr : ℕ) {hcr pc : ℕ} {b : List ℕ} {x : Way} {o : Result Verdict Refusal} {l : List ℕ} → Read b hcr pc
    → x ≡ abort_way own (abort_more own) a cpsr scr hcr pc → CameTo b (taken_by Synchronous x) o l
    → CameTo b (Abort own b a cpsr scr) o l
aborted own a cpsr scr {b = b} {x} d h t =
    let words : x ≡ abort_way own (abort_more own) a cpsr scr (word b HCR) (word b PC) = rw (← d.hcr_read, ← d.pc_read) h in
    same_action b (ap (taken_by Synchronous) words) t

module _ (own a cpsr scr hcr pc : ℕ) (here : lacking a cpsr scr ≡ false) where
  pub abort_to_monitor : (external a && SCR_EA scr) ≡ true
      → Enter MONITOR own (wrap pc (abort_more own)) ≡ abort_way own (abort_more own) a cpsr scr hcr pc
  unfolding abort_way
  abort_to_monitor x = rw (here, x)

  pub abort_to_hyp : (external a && SCR_EA scr) ≡ false → (stage2 a || general_to_hyp cpsr scr hcr) ≡ true
      → Enter HYP (offset_to HYP (mode_field cpsr) own) pc ≡ abort_way own (abort_more own) a cpsr scr hcr pc
  unfolding abort_way
  abort_to_hyp x h = rw (here, x, h)

  pub abort_to_own : (external a && SCR_EA scr) ≡ false → (stage2 a || general_to_hyp cpsr scr hcr) ≡ false
      → Enter ABORT own (wrap pc (abort_more own)) ≡ abort_way own (abort_more own) a cpsr scr hcr pc
  unfolding abort_way
  abort_to_own x h = rw (here, x, h)
