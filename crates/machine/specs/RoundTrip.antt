-- A return, and an entry with the return behind it (document 02, No. 9): what an illegal return keeps, what a return takes off, and
-- what an entry and its return leave together.
use Rattle.std.specs.Prelude.{◌≡◌, Bool, true, List, [], ◌∷◌, ℕ, if◌then◌else◌}
use Rattle.words.specs.Word.{word}
use Rattle.state.specs.Choice.{◌is◌, ◌among◌}
use Rattle.state.specs.Field.{bit, bits, mode_field, CPSR_T}
use Rattle.state.specs.Mode.{HYP}
use Rattle.state.specs.Number.{DONE}
use Rattle.state.specs.Place.{CPSR, PC, SCR, HCR}
use Rattle.entry.specs.Code.{UNDEFINED_INSTRUCTION, PREFETCH_ABORT, DATA_ABORT, MONITOR_TRAP}
use Rattle.entry.specs.Route.{wrap, ahead}
use Rattle.returns.specs.Return.{aligned}
use Rattle.rules.specs.Event.{RETURN}
use Rattle.rules.specs.Refusal.{refusal}
use Rattle.rules.specs.Run.{run}
use Rattle.rules.specs.Step.{after}
use Rattle.rules.specs.declared.event.Event.{Event}
use Rattle.machine.specs.Claims.{target}

-- an illegal return: "the mode stays, IL becomes 1, the other fields .. as in the legal case", those of the saved word; the bits
-- between IT and IL are 0 in both
pub record KeepsMode (cpsr saved w : ℕ) : Type 0 where
  pub mode : mode_field w ≡ mode_field cpsr
  pub il : bit 20 w ≡ true
  pub high : bits 31 25 w ≡ bits 31 25 saved
  pub clear : bits 24 21 w ≡ 0
  pub low : bits 19 5 w ≡ bits 19 5 saved

-- "the manual's subtraction" (Arm's source 000, the preferred return address and the link value of each exception): what a return
-- to the preferred return address takes off LR, by the event's code and the T that the entry saved
abbrev pub own_subtraction : ℕ → Bool → ℕ
own_subtraction code t =
    if code among (UNDEFINED_INSTRUCTION ∷ MONITOR_TRAP ∷ []) then (if t then 2 else 4) else
    if code is PREFETCH_ABORT then 4 else
    if code is DATA_ABORT then 8 else
    0

-- nothing from Hyp, whose ELR_hyp is the preferred return address itself
abbrev pub subtraction : ℕ → Bool → ℕ → ℕ
subtraction code t to = if to is HYP then 0 else own_subtraction code t

module _ (b : List ℕ) (e : Event) where
  -- the return from where the event went
  abbrev pub back : Event
  back = record { code = RETURN; a = subtraction e.code (CPSR_T (word b CPSR)) (target b e); b = 0 }

  -- the event's preferred return address
  abbrev pub preferred_return : ℕ
  preferred_return = wrap (word b PC) (ahead e.code (word b CPSR) (word b SCR) (word b HCR))

  -- the return is done, CPSR is restored, every bit of it, and PC is the preferred return, aligned by T
  pub record RoundTrip : Type 0 where
    pub done : refusal (after b e) back ≡ DONE
    pub cpsr : word (run b (e ∷ back ∷ [])) CPSR ≡ word b CPSR
    pub pc : word (run b (e ∷ back ∷ [])) PC ≡ aligned (word b CPSR) preferred_return
