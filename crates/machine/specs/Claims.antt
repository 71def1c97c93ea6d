-- Words for what the theorems say of a step: the first row that applies, an access that hangs on its right alone, what can be
-- taken at an interrupt check and which is taken, what an entry leaves of SCR and HCR, and what it is to be a step.
use Rattle.std.specs.Prelude.{◌≡◌, Bool, true, false, not, ◌&&◌, ◌||◌, ◌⊎◌, List, [], ◌∷◌, ℕ, ◌<◌, ◌^◌, length, if◌then◌else◌}
use Rattle.words.specs.Word.{word, Bytes}
use Rattle.state.specs.Choice.{◌is◌, Row}
use Rattle.state.specs.Field.{without, mode_field, HDCR_TDE}
use Rattle.state.specs.Mode.{MONITOR, HYP}
use Rattle.state.specs.Number.{DONE, BAD_SIZE}
use Rattle.state.specs.Place.{BLOCK_SIZE, NO_PLACE, CPSR, PC, SCR, HCR, HDCR}
use Rattle.state.specs.State.{ns_user, ns_el1, fault}
use Rattle.entry.specs.Code.{PREFETCH_ABORT}
use Rattle.entry.specs.Enter.{entered}
use Rattle.entry.specs.Route as synchronous
use Rattle.entry.specs.Way.{Enter}
use Rattle.interrupts.specs.Check as interrupt
use Rattle.interrupts.specs.Decision.{NOT_TAKEN, entry, index_of, physical, line_alone, target_by}
use Rattle.interrupts.specs.Kind.{Kind}
use Rattle.interrupts.specs.Takeable.{pending, masked}
use Rattle.interrupts.specs.declared.exception.Exception.{Exception}
use Rattle.interrupts.specs.declared.exception.Exception.TheVariants.{Synchronous, SError, Fiq, Irq}
use Rattle.interrupts.specs.declared.exception.Exception.TheVariants.{VirtualSError, VirtualFiq, VirtualIrq}
use Rattle.banked.specs.Cell.{cell}
use Rattle.rules.specs.Event.{INTERRUPT_CHECK, is_banked, bad_event}
use Rattle.rules.specs.Known.{direct}
use Rattle.rules.specs.Refusal.{rows, refusal}
use Rattle.rules.specs.Step.{routed_in, va_cleared, answer, after, sized, number_returned, block_left, answer_left}
use Rattle.rules.specs.Verdict.{entry_to, answer_for}
use Rattle.rules.specs.declared.event.Event.{Event}

-- ---- the answer numbers: "The lowest number that applies wins", DISABLED going behind NOT_HERE (document 02, No. 8)

-- n is the number of the first row that applies; where none does it is DONE
pub data FirstRow : List Row → ℕ → Type 0 where
  none : FirstRow [] DONE
  here : {r : Row} {rs : List Row} → r.applies ≡ true → FirstRow (r ∷ rs) r.number
  later : {r : Row} {rs : List Row} {n : ℕ} → r.applies ≡ false → FirstRow rs n → FirstRow (r ∷ rs) n

-- the rows of a step over an answer buffer, row 1 being whole: "block not 180 bytes, or answer buffer not 8"
abbrev pub rows_lent : List ℕ → Event → List ℕ → List Row
rows_lent b e buffer = record { applies = not (sized b buffer); number = BAD_SIZE } ∷ rows b e

-- ---- a banked access on a good block, with operands in their range, to a register that there is: what is left is its right

pub record Accesses (b : List ℕ) (e : Event) : Type 0 where
  pub sized : length b ≡ BLOCK_SIZE
  pub good : fault b ≡ DONE
  pub banked : is_banked e.code ≡ true
  pub operands : bad_event e.code e.a e.b ≡ false
  pub register : (cell e.a is NO_PLACE) ≡ false

-- ---- the interrupt check: "takes an exception exactly when one is pending .. and not masked under its routing"

-- of these exceptions one is so; and x is the first that is
abbrev pub OneOf : (Exception → Type 0) → List Exception → Type 0
OneOf P [] = ⊥
OneOf P (x ∷ xs) = P x ⊎ OneOf P xs

pub data TheFirst (P : Exception → Type 0) : List Exception → Exception → Type 0 where
  this : {x : Exception} {xs : List Exception} → P x → TheFirst P (x ∷ xs) x
  another : {x y : Exception} {xs : List Exception} → (P y → ⊥) → TheFirst P xs x → TheFirst P (y ∷ xs) x

module _ (b : List ℕ) (e : Event) where
  -- x is pending, by the lines that the event names, and not masked under its routing
  pub record CanBeTaken (x : Exception) : Type 0 where
    pub is_pending : pending x e.a (word b CPSR) (word b SCR) (word b HCR) ≡ true
    pub not_masked : masked x (word b CPSR) (word b SCR) (word b HCR) ≡ false

  -- answer and block are those of the entry that x's routing leads to
  pub record EntersBy (x : Exception) : Type 0 where
    pub to : ℕ
    pub offset : ℕ
    pub link : ℕ
    pub routing : interrupt.way x (word b CPSR) (word b SCR) (word b HCR) (word b PC) ≡ Enter to offset link
    pub answers : answer b e ≡ answer_for (entry_to x to offset)
    pub leaves : after b e ≡ entered (va_cleared b x) to offset link

  -- an exception is taken
  pub record Takes : Type 0 where
    pub exception : Exception
    pub entry : EntersBy exception

  -- nothing is taken: DONE, the value 0, and every byte as it was
  pub record TakesNothing : Type 0 where
    pub number : (answer b e).number ≡ DONE
    pub value : (answer b e).value ≡ 0
    pub leaves : after b e ≡ b

-- ---- the decision table (document 02, No. 4)

module _ (k : Kind) (b : List ℕ) where
  -- an interrupt check with the line of k alone, and the entry at the index that the block's bits make
  abbrev pub alone : Event
  alone = record { code = INTERRUPT_CHECK; a = line_alone k; b = 0 }

  abbrev pub decision : ℕ
  decision = entry (index_of k true (word b CPSR) (word b SCR) (word b HCR))

  -- it says whether the physical exception is taken, and where it goes
  pub record Decided : Type 0 where
    pub taken : (decision ≡ NOT_TAKEN → ⊥) → EntersBy b alone (physical k)
    pub only : EntersBy b alone (physical k) → decision ≡ NOT_TAKEN → ⊥
    pub goes : (p : EntersBy b alone (physical k)) → p.to ≡ target_by k decision

-- ---- a synchronous event

module _ (b : List ℕ) (e : Event) where
  -- where the event goes, at which offset, and its link, by its routing
  abbrev pub target : ℕ
  target = synchronous.target e.code (routed_in b e.code e.a) (word b CPSR) (word b SCR) (word b HCR)

  abbrev pub offset : ℕ
  offset = synchronous.offset e.code (routed_in b e.code e.a) (word b CPSR) (word b SCR) (word b HCR)

  abbrev pub link : ℕ
  link = synchronous.link e.code (routed_in b e.code e.a) (word b CPSR) (word b SCR) (word b HCR) (word b PC)

  -- answer and block are those of that entry
  pub record EntersAsRouted : Type 0 where
    pub answers : answer b e ≡ answer_for (entry_to Synchronous target offset)
    pub leaves : after b e ≡ entered b target offset link

-- ---- a debug abort (document 02, No. 11)

-- Prefetch Abort with A 4, debug; and with A 0
abbrev pub debug_abort : Event
debug_abort = record { code = PREFETCH_ABORT; a = 4; b = 0 }

abbrev pub plain_abort : Event
plain_abort = record { code = PREFETCH_ABORT; a = 0; b = 0 }

-- "From Non-secure User or NS EL1 .. if HDCR.TDE (bit 8) is 1"
abbrev pub debug_trapped_in : List ℕ → Bool
debug_trapped_in b = (ns_user (word b CPSR) (word b SCR) || ns_el1 (word b CPSR) (word b SCR)) && HDCR_TDE (word b HDCR)

-- it is done, "goes to Hyp, at 0x14", and enters there
pub record DebugToHyp (b : List ℕ) : Type 0 where
  pub done : refusal b debug_abort ≡ DONE
  pub is_to_hyp : target b debug_abort ≡ HYP
  pub at_14 : offset b debug_abort ≡ 0x14
  pub enters : EntersAsRouted b debug_abort

-- "else as before": answer and block are those of A 0
pub record AsPlain (b : List ℕ) : Type 0 where
  pub answers : answer b debug_abort ≡ answer b plain_abort
  pub leaves : after b debug_abort ≡ after b plain_abort

-- ---- what an entry leaves

-- "An entry from Monitor to a mode other than Hyp, Monitor included, clears SCR.NS": else SCR is as it was
abbrev pub scr_left : List ℕ → ℕ → ℕ
scr_left b to =
    if mode_field (word b CPSR) is MONITOR && not (to is HYP) then without 0 (word b SCR) else
    word b SCR

-- "Taking virtual SError clears HCR.VA": else HCR is as it was
abbrev pub hcr_left : List ℕ → Exception → ℕ
hcr_left b Synchronous = word b HCR
hcr_left b SError = word b HCR
hcr_left b Fiq = word b HCR
hcr_left b Irq = word b HCR
hcr_left b VirtualSError = without 8 (word b HCR)
hcr_left b VirtualFiq = word b HCR
hcr_left b VirtualIrq = word b HCR

-- ---- what it is to be a step

-- a function of a block, an event and an answer buffer: the number returned, the block after and the buffer after
pub record Stepper : Type 0 where
  pub number : List ℕ → Event → List ℕ → ℕ
  pub block : List ℕ → Event → List ℕ → List ℕ
  pub buffer : List ℕ → Event → List ℕ → List ℕ

-- what a caller can give: bytes in both buffers, and three words
pub record Given (b : List ℕ) (e : Event) (buffer : List ℕ) : Type 0 where
  pub block_bytes : Bytes b
  pub buffer_bytes : Bytes buffer
  pub code_fits : e.code < 2 ^ 32
  pub a_fits : e.a < 2 ^ 32
  pub b_fits : e.b < 2 ^ 32

-- what the contract of the step asks of such a function: it is a direct one
pub record Meets (f : Stepper) : Type 0 where
  pub returns : (b : List ℕ) (e : Event) (m : List ℕ) → Given b e m → f.number b e m ≡ number_returned b (direct e) m
  pub leaves : (b : List ℕ) (e : Event) (m : List ℕ) → Given b e m → f.block b e m ≡ block_left b (direct e) m
  pub answers : (b : List ℕ) (e : Event) (m : List ℕ) → Given b e m → f.buffer b e m ≡ answer_left b (direct e) m
