-- The starred cases a to j of document 01 ("Numbers to hold against it"), as one list under one statement, and those that later
-- requests name. antt computes them.
use mathlib.Core.Path.{◌≡◌, refl}
use mathlib.Core.Bool.{Bool, true, ◌&&◌}
use mathlib.Core.List.{List, [], ◌∷◌}
use Prim.Native.Nat.{ℕ}
use lib.Dec.{eqb}
use lib.ListN.{replicate}
use Rattle.words.specs.Word.{spelt, word, put}
use Rattle.state.specs.Mode.{known, el1, guest, is_target, spsr_place, lr_place}
use Rattle.state.specs.Number.{DONE, BAD_STATE, BAD_EVENT, NOT_HERE, NO_REGISTER, NO_RIGHT, DISABLED, OWN_REGISTER}
use Rattle.state.specs.Place.{BLOCK_SIZE, LR_fiq, LR_irq, LR_svc, LR_abt, LR_mon, ELR_hyp, SPSR_svc, SPSR_mon, SPSR_hyp, CPSR, PC, SCR}
use Rattle.state.specs.Place.{HCR, VBAR_ns, HVBAR, HDCR}
use Rattle.state.specs.State.{good}
use Rattle.entry.specs.Code.{SVC, SMC, HVC, PREFETCH_ABORT, DATA_ABORT}
use Rattle.entry.specs.Enter.{ns_cleared, masks_after, cpsr_after, vector_base, written, entered}
use Rattle.entry.specs.Route as synchronous
use Rattle.interrupts.specs.Check as interrupt
use Rattle.interrupts.specs.Masking.{obeyed}
use Rattle.interrupts.specs.Takeable.{pending, masked, takeable}
use Rattle.banked.specs.Cell.{cell}
use Rattle.banked.specs.Right.{denied, own, reason, right}
use Rattle.returns.specs.Illegal.{illegal}
use Rattle.returns.specs.Level.{level}
use Rattle.returns.specs.Return.{wrong_a, mode_kept, word_after, address_after}
use Rattle.rules.specs.Event.{INTERRUPT_CHECK, BANKED_READ, RETURN, bad_event}
use Rattle.rules.specs.Known.{seen, direct}
use Rattle.rules.specs.declared.event.Event.{Event}
use Rattle.rules.specs.Refusal.{refusal}
use Rattle.rules.specs.Step.{done_action, action, answer, after}
use Rattle.rules.specs.Verdict.{value}

-- a place and the word there
abbrev pub Words : Type 0
Words = List (ℕ × ℕ)

-- the words of the start block that are not 0, the event, the answer, and words of the block after it
record Case : Type 0 where
  start : Words
  code : ℕ
  a : ℕ
  number : ℕ
  told : ℕ
  left : Words

abbrev pub block : Words → List ℕ
block [] = replicate BLOCK_SIZE 0
block (x ∷ xs) = put (block xs) x.0 x.1

abbrev holds : List ℕ → Words → Bool
holds b [] = true
holds b (x ∷ xs) = eqb (word b x.0) x.1 && holds b xs

abbrev event : Case → Event
event c = record { code = c.code; a = c.a; b = 0 }

-- the event being seen so
abbrev right_case : (Event → Event) → Case → Bool
right_case see c =
    eqb (answer (block c.start) (see (event c))).number c.number
    && (eqb (answer (block c.start) (see (event c))).value c.told
    && holds (after (block c.start) (see (event c))) c.left)

abbrev all_as : (Event → Event) → List Case → Bool
all_as see [] = true
all_as see (c ∷ cs) = right_case see c && all_as see cs

abbrev all : List Case → Bool
all = all_as (λ e. e)

-- a done step that is not a banked access: start, event, value, words after
abbrev gives : Words → ℕ → ℕ → ℕ → Words → Case
gives start code a told left = record { start = start; code = code; a = a; number = DONE; told = told; left = left }

-- a banked access: start, event, answer number
abbrev answers : Words → ℕ → ℕ → Case
answers start a number = record { start = start; code = BANKED_READ; a = a; number = number; told = 0; left = [] }

-- "Words not named are 0; PC 0x8000"
abbrev pub with : ℕ → ℕ → Words
with scr cpsr = (SCR, scr) ∷ (CPSR, cpsr) ∷ (PC, 0x8000) ∷ []

abbrev cases : List Case
cases =
    -- a
    gives ((VBAR_ns, 0x10000000) ∷ with 1 0x13) INTERRUPT_CHECK 4 0x31218
    ((CPSR, 0x192) ∷ (LR_irq, 0x8004) ∷ (PC, 0x10000018) ∷ [])
    -- b
    ∷ gives ((VBAR_ns, 0x10000000) ∷ with 3 0x13) INTERRUPT_CHECK 4 0x31618 ((CPSR, 0x1D6) ∷ [])
    -- c
    ∷ gives (with 3 0x93) INTERRUPT_CHECK 4 0 ((CPSR, 0x93) ∷ (PC, 0x8000) ∷ (SCR, 3) ∷ [])
    -- d
    ∷ gives ((HCR, 0x10) ∷ with 1 0x93) INTERRUPT_CHECK 4 0x31A18 ((CPSR, 0x1DA) ∷ (ELR_hyp, 0x8000) ∷ [])
    -- e, and with SCR 0x15
    ∷ gives (with 5 0x53) INTERRUPT_CHECK 2 0x2161C []
    ∷ gives (with 0x15 0x53) INTERRUPT_CHECK 2 0 []
    -- f
    ∷ gives ((HCR, 0x120) ∷ with 1 0x13) INTERRUPT_CHECK 0 0x41710 ((HCR, 0x20) ∷ (LR_abt, 0x8008) ∷ [])
    -- g
    ∷ gives ((PC, 0xFFFFFFFE) ∷ with 1 0x30) SVC 0 0x1308 ((LR_svc, 0) ∷ (CPSR, 0x93) ∷ [])
    -- h
    ∷ gives (with 1 0x16) SMC 0 0x1608 ((SCR, 0) ∷ (LR_mon, 0x8004) ∷ [])
    -- i, and from 0x16
    ∷ answers (with 1 0x13) 31 NO_RIGHT
    ∷ answers (with 1 0x16) 31 DONE
    -- j, with A 62, which No. 10 of document 02 changed, and with A 7
    ∷ answers (with 1 0x1A) 30 DONE
    ∷ answers (with 1 0x1A) 62 OWN_REGISTER
    ∷ answers (with 1 0x1A) 7 NO_REGISTER
    ∷ []

pub starred : all cases ≡ true
unfolding spelt put known el1 guest spsr_place lr_place good ns_cleared masks_after cpsr_after vector_base written entered
    synchronous.to_monitor synchronous.to_hyp synchronous.target synchronous.offset synchronous.link
    synchronous.not_here synchronous.disabled synchronous.way interrupt.found interrupt.way obeyed pending masked takeable cell denied
    own reason right bad_event refusal done_action action answer after value
starred = refl

-- ---- No. 5 of document 02

abbrev under_tge : List Case
under_tge =
    -- "Non-secure User with TGE 1, IMO 0 and PSTATE.I 1 now takes an IRQ", to Hyp; "the stored word stays as written"
    gives ((HCR, 0x08000000) ∷ with 1 0x90) INTERRUPT_CHECK 4 0x31A18
    ((CPSR, 0x1DA) ∷ (ELR_hyp, 0x8000) ∷ (HCR, 0x08000000) ∷ [])
    -- "Virtual exceptions stay off under TGE": IMO 1, VI 1 and the virtual line
    ∷ gives ((HCR, 0x08000090) ∷ with 1 0x10) INTERRUPT_CHECK 16 0 ((CPSR, 0x10) ∷ (HCR, 0x08000090) ∷ [])
    ∷ []

pub tge_acts : all under_tge ≡ true
unfolding spelt put known el1 guest spsr_place lr_place good ns_cleared masks_after cpsr_after vector_base written entered
    synchronous.to_monitor synchronous.to_hyp synchronous.target synchronous.offset synchronous.link
    synchronous.not_here synchronous.disabled synchronous.way interrupt.found interrupt.way obeyed pending masked takeable cell denied
    own reason right bad_event refusal done_action action answer after value
tge_acts = refl

-- ---- No. 8 of document 02

-- a call that is refused: start, code, number
abbrev refuses : Words → ℕ → ℕ → Case
refuses start code number = record { start = start; code = code; a = 0; number = number; told = 0; left = start }

abbrev calls : List Case
calls =
    -- "SMC from Non-secure state with SCR.SCD (bit 7) 1", from Supervisor, and from Hyp, where TSC does not trap
    refuses (with 0x81 0x13) SMC DISABLED
    ∷ refuses ((HCR, 0x80000) ∷ with 0x81 0x1A) SMC DISABLED
    -- "Secure SMC with SCD 1", also from Monitor with NS 1
    ∷ refuses (with 0x80 0x13) SMC DISABLED
    ∷ refuses (with 0x81 0x16) SMC DISABLED
    -- "An SMC from NS EL1 with TSC 1 is still trapped to Hyp"
    ∷ gives ((HCR, 0x80000) ∷ with 0x81 0x13) SMC 0 0x1A14 ((ELR_hyp, 0x8000) ∷ [])
    -- "HVC with SCR.HCE (bit 8) 0", and "from Hyp with HCE 0"; with HCE 1 both are taken
    ∷ refuses (with 1 0x13) HVC DISABLED
    ∷ refuses (with 1 0x1A) HVC DISABLED
    ∷ gives (with 0x101 0x13) HVC 0 0x1A14 ((ELR_hyp, 0x8004) ∷ [])
    ∷ gives (with 0x101 0x1A) HVC 0 0x1A08 ((ELR_hyp, 0x8004) ∷ [])
    -- "NOT_HERE goes before it"
    ∷ refuses (with 0x81 0x10) SMC NOT_HERE
    ∷ refuses (with 1 0x10) HVC NOT_HERE
    ∷ []

pub calls_right : all calls ≡ true
unfolding spelt put known el1 guest spsr_place lr_place good ns_cleared masks_after cpsr_after vector_base written entered
    synchronous.to_monitor synchronous.to_hyp synchronous.target synchronous.offset synchronous.link
    synchronous.not_here synchronous.disabled synchronous.way interrupt.found interrupt.way obeyed pending masked takeable cell denied
    own reason right bad_event refusal done_action action answer after value
calls_right = refl

-- ---- No. 9 of document 02

-- a return that is refused: start, A, number
abbrev stays : Words → ℕ → ℕ → Case
stays start a number = record { start = start; code = RETURN; a = a; number = number; told = 0; left = start }

abbrev returns : List Case
returns =
    -- legal: from an SVC back to User; T 1 clears one bit, T 0 two; "wrapping"; IT and IL come back as they were saved
    gives ((SPSR_svc, 0x10) ∷ (LR_svc, 0x9004) ∷ with 1 0x13) RETURN 0 0 ((CPSR, 0x10) ∷ (PC, 0x9004) ∷ (SPSR_svc, 0x10) ∷ [])
    ∷ gives ((SPSR_svc, 0x30) ∷ (LR_svc, 0x9007) ∷ with 1 0x13) RETURN 0 0 ((CPSR, 0x30) ∷ (PC, 0x9006) ∷ [])
    ∷ gives ((SPSR_svc, 0x10) ∷ (LR_svc, 0x9005) ∷ with 1 0x13) RETURN 2 0 ((PC, 0x9000) ∷ [])
    ∷ gives ((SPSR_svc, 0x10) ∷ with 1 0x13) RETURN 8 0 ((PC, 0xFFFFFFF8) ∷ [])
    ∷ gives ((SPSR_svc, 0x0610FC10) ∷ with 1 0x13) RETURN 0 0 ((CPSR, 0x0610FC10) ∷ [])
    -- "From Hyp the address is ELR_hyp"
    ∷ gives ((SPSR_hyp, 0x13) ∷ (ELR_hyp, 0x9004) ∷ with 1 0x1A) RETURN 0 0 ((CPSR, 0x13) ∷ (PC, 0x9004) ∷ [])
    -- "Secure Supervisor to Monitor is a legal return"
    ∷ gives ((SPSR_svc, 0x16) ∷ with 0 0x13) RETURN 0 0 ((CPSR, 0x16) ∷ [])
    -- illegal: a reserved mode; a higher Exception level; Hyp with NS 0
    ∷ gives ((SPSR_svc, 0x60000034) ∷ (LR_svc, 0x9007) ∷ with 1 0x93) RETURN 0 0 ((CPSR, 0x60100033) ∷ (PC, 0x9006) ∷ [])
    ∷ gives ((SPSR_svc, 0x1DA) ∷ with 1 0x13) RETURN 0 0 ((CPSR, 0x1001D3) ∷ [])
    ∷ gives ((SPSR_mon, 0x1A) ∷ with 0 0x16) RETURN 0 0 ((CPSR, 0x100016) ∷ [])
    -- "Non-secure EL1 with TGE 1", from Hyp and from Monitor with NS 1; with NS 0 TGE plays no part
    ∷ gives ((HCR, 0x08000000) ∷ (SPSR_hyp, 0x13) ∷ with 1 0x1A) RETURN 0 0 ((CPSR, 0x10001A) ∷ [])
    ∷ gives ((HCR, 0x08000000) ∷ (SPSR_mon, 0x13) ∷ with 1 0x16) RETURN 0 0 ((CPSR, 0x100016) ∷ [])
    ∷ gives ((HCR, 0x08000000) ∷ (SPSR_mon, 0x13) ∷ with 0 0x16) RETURN 0 0 ((CPSR, 0x13) ∷ [])
    -- refused: 3 before 4, 4 before 5
    ∷ stays ((SPSR_svc, 0x200010) ∷ with 1 0x13) 3 BAD_STATE
    ∷ stays ((SPSR_svc, 0x10) ∷ with 1 0x13) 3 BAD_EVENT
    ∷ stays ((SPSR_hyp, 0x13) ∷ with 1 0x1A) 4 BAD_EVENT
    ∷ stays (with 1 0x10) 1 BAD_EVENT
    ∷ stays (with 1 0x10) 4 NOT_HERE
    ∷ stays (with 0 0x1F) 0 NOT_HERE
    ∷ []

pub returns_right : all returns ≡ true
unfolding spelt put known el1 guest is_target spsr_place lr_place good illegal level wrong_a mode_kept word_after address_after
    synchronous.not_here synchronous.disabled cell denied own reason right bad_event refusal done_action action answer after value
returns_right = refl

-- ---- No. 10 of document 02

-- the register of A from Non-secure Supervisor, Hyp and User
abbrev reasons : List Case
reasons =
    -- "SP_svc from Supervisor is 17"
    answers (with 1 0x13) 19 OWN_REGISTER
    -- "SP_hyp from Supervisor is 7", which is case i
    ∷ answers (with 1 0x13) 31 NO_RIGHT
    -- "SPSR_hyp from Hyp is 17", and so is LR_usr; ELR_hyp is allowed
    ∷ answers (with 1 0x1A) 62 OWN_REGISTER
    ∷ answers (with 1 0x1A) 6 OWN_REGISTER
    ∷ answers (with 1 0x1A) 30 DONE
    -- "any register from User is 7": its own R8_usr and LR_usr, and another's
    ∷ answers (with 1 0x10) 0 NO_RIGHT
    ∷ answers (with 1 0x10) 6 NO_RIGHT
    ∷ answers (with 0 0x10) 19 NO_RIGHT
    -- Monitor's registers from Monitor with NS 1, from Secure and from Non-secure Supervisor
    ∷ answers (with 1 0x16) 60 OWN_REGISTER
    ∷ answers (with 0 0x13) 60 DONE
    ∷ answers (with 1 0x13) 60 NO_RIGHT
    ∷ []

pub reasons_right : all reasons ≡ true
unfolding spelt put known el1 guest is_target spsr_place lr_place good wrong_a synchronous.not_here synchronous.disabled cell denied own
    reason right bad_event refusal done_action action answer after value
reasons_right = refl

-- ---- No. 11 of document 02

-- HDCR.TDE is 1, and Hyp's and Non-secure state's vectors stand apart
abbrev tde : Words → Words
tde start = (HDCR, 0x100) ∷ (HVBAR, 0x4000) ∷ (VBAR_ns, 0x2000) ∷ start

-- the code, with A past its values
abbrev past_a : ℕ → ℕ → Case
past_a code a = record { start = with 1 0x13; code = code; a = a; number = BAD_EVENT; told = 0; left = with 1 0x13 }

abbrev debugs : List Case
debugs =
    -- "From Non-secure User or NS EL1 a debug abort goes to Hyp, at 0x14"; HDCR is kept
    gives (tde (with 1 0x10)) PREFETCH_ABORT 4 0x1A14 ((CPSR, 0x1DA) ∷ (PC, 0x4014) ∷ (ELR_hyp, 0x8000) ∷ (HDCR, 0x100) ∷ [])
    ∷ gives (tde (with 1 0x13)) PREFETCH_ABORT 4 0x1A14 ((CPSR, 0x1DA) ∷ (PC, 0x4014) ∷ (SPSR_hyp, 0x13) ∷ (HDCR, 0x100) ∷ [])
    -- "else as before": with A 0; with TDE 0; from Hyp, at its own offset; from Secure state
    ∷ gives (tde (with 1 0x13)) PREFETCH_ABORT 0 0x170C ((CPSR, 0x197) ∷ (PC, 0x200C) ∷ (LR_abt, 0x8004) ∷ [])
    ∷ gives (with 1 0x13) PREFETCH_ABORT 4 0x170C ((CPSR, 0x197) ∷ (PC, 0xC) ∷ (LR_abt, 0x8004) ∷ [])
    ∷ gives (tde (with 1 0x1A)) PREFETCH_ABORT 4 0x1A0C ((PC, 0x400C) ∷ (ELR_hyp, 0x8000) ∷ [])
    ∷ gives (tde (with 0 0x13)) PREFETCH_ABORT 4 0x170C ((CPSR, 0x197) ∷ (LR_abt, 0x8004) ∷ [])
    -- and an abort of stage 2 is where it was
    ∷ gives (with 1 0x13) PREFETCH_ABORT 2 0x1A14 ((ELR_hyp, 0x8000) ∷ [])
    -- debug is no bit that goes with the others, and Data Abort has none
    ∷ past_a PREFETCH_ABORT 5
    ∷ past_a DATA_ABORT 4
    ∷ []

pub debugs_right : all debugs ≡ true
unfolding spelt put known el1 guest spsr_place lr_place good ns_cleared masks_after cpsr_after vector_base written entered
    synchronous.to_monitor synchronous.to_hyp synchronous.target synchronous.offset synchronous.link
    synchronous.not_here synchronous.disabled synchronous.way cell denied own reason right bad_event refusal done_action action answer
    after value
debugs_right = refl

-- ---- No. 13 of document 02

-- a check that is refused: start, lines, number
abbrev refuses_lines : Words → ℕ → ℕ → Case
refuses_lines start lines number =
    record { start = start; code = INTERRUPT_CHECK; a = lines; number = number; told = 0; left = start }

-- "signals guests through HCR.VI and VF alone": with FMO and VF a virtual FIQ, with IMO and VI a virtual IRQ, by a direct step with no line
abbrev virtual_ones : List Case
virtual_ones =
    gives ((HCR, 0x48) ∷ with 1 0x13) INTERRUPT_CHECK 0 0x5111C ((CPSR, 0x1D1) ∷ (LR_fiq, 0x8004) ∷ (HCR, 0x48) ∷ [])
    ∷ gives ((HCR, 0x90) ∷ with 1 0x13) INTERRUPT_CHECK 0 0x61218 ((CPSR, 0x192) ∷ (LR_irq, 0x8004) ∷ (HCR, 0x90) ∷ [])
    -- from User too; and a physical one goes before them
    ∷ gives ((HCR, 0x48) ∷ with 1 0x10) INTERRUPT_CHECK 0 0x5111C ((CPSR, 0x1D1) ∷ [])
    ∷ gives ((HCR, 0x90) ∷ with 1 0x10) INTERRUPT_CHECK 0 0x61218 ((CPSR, 0x192) ∷ [])
    ∷ gives ((HCR, 0x90) ∷ with 1 0x13) INTERRUPT_CHECK 4 0x31A18 ((CPSR, 0x1DA) ∷ [])
    -- "lines 8 and 16 of event 9 become BAD_EVENT", each, both, and beside a line that is not retired
    ∷ refuses_lines ((HCR, 8) ∷ with 1 0x13) 8 BAD_EVENT
    ∷ refuses_lines ((HCR, 0x10) ∷ with 1 0x13) 16 BAD_EVENT
    ∷ refuses_lines ((HCR, 0x18) ∷ with 1 0x13) 24 BAD_EVENT
    ∷ refuses_lines ((HCR, 0x90) ∷ with 1 0x13) 20 BAD_EVENT
    -- a block that is not good goes before it
    ∷ refuses_lines (with 1 0x200013) 16 BAD_STATE
    ∷ []

pub virtual_ones_right : all_as direct virtual_ones ≡ true
unfolding seen spelt put known el1 guest spsr_place lr_place good ns_cleared masks_after cpsr_after vector_base written entered
    synchronous.to_monitor synchronous.to_hyp synchronous.target synchronous.offset synchronous.link
    synchronous.not_here synchronous.disabled synchronous.way interrupt.found interrupt.way obeyed pending masked takeable cell denied
    own reason right bad_event refusal done_action action answer after value
virtual_ones_right = refl

-- the machine itself knows both lines, as a trace of kind 1 does
abbrev by_line : List Case
by_line =
    gives ((HCR, 8) ∷ with 1 0x13) INTERRUPT_CHECK 8 0x5111C ((CPSR, 0x1D1) ∷ (LR_fiq, 0x8004) ∷ [])
    ∷ gives ((HCR, 0x10) ∷ with 1 0x13) INTERRUPT_CHECK 16 0x61218 ((CPSR, 0x192) ∷ (LR_irq, 0x8004) ∷ [])
    ∷ []

pub by_line_right : all_as (seen true) by_line ≡ true
unfolding seen spelt put known el1 guest spsr_place lr_place good ns_cleared masks_after cpsr_after vector_base written entered
    synchronous.to_monitor synchronous.to_hyp synchronous.target synchronous.offset synchronous.link
    synchronous.not_here synchronous.disabled synchronous.way interrupt.found interrupt.way obeyed pending masked takeable cell denied
    own reason right bad_event refusal done_action action answer after value
by_line_right = refl
