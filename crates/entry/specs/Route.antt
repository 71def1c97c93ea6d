-- Where a synchronous event goes, at which offset, and with which return address (document 01, "Routing"; Arm's source
-- 000 for the offsets and the preferred returns, source 003 for the routing).
use Rattle.std.specs.Prelude.{ℕ, ◌+◌, ◌%◌, ◌^◌, Bool, not, ◌&&◌, ◌||◌, [], ◌∷◌, if◌then◌else◌}
use Rattle.state.specs.Choice.{◌is◌, ◌among◌}
use Rattle.state.specs.Field.{mode_field, CPSR_T, SCR_EA, SCR_SCD, SCR_HCE, HCR_TSC, HCR_TGE, HDCR_TDE}
use Rattle.state.specs.Mode.{USER, SUPERVISOR, MONITOR, ABORT, HYP, UNDEFINED}
use Rattle.state.specs.Number.{NOT_HERE, DISABLED}
use Rattle.state.specs.State.{secure, ns_el1, ns_user}
use Rattle.entry.specs.Code.{UNDEFINED_INSTRUCTION, SVC, SMC, HVC, PREFETCH_ABORT, DATA_ABORT, HYP_TRAP}
use Rattle.entry.specs.Code.{MONITOR_TRAP, is_synchronous, is_abort, is_general, external, stage2, debug, STAGE_2}
use Rattle.entry.specs.Offset as offsets
use Rattle.entry.specs.Way.{Way, Barred, Enter}

-- "All address sums wrap at 2^32"
abbrev pub wrap : ℕ → ℕ → ℕ
wrap x y = (x + y) % 2 ^ 32

-- an SMC that HCR.TSC sends to Hyp: "from NS EL1 with TSC 1"
abbrev pub trapped : ℕ → ℕ → ℕ → ℕ → Bool
trapped code cpsr scr hcr = code is SMC && (ns_el1 cpsr scr && HCR_TSC hcr)

-- "To Monitor: SMC, unless NS EL1 with TSC 1; Monitor Trap; an external abort with EA 1"
unfoldable pub to_monitor : ℕ → ℕ → ℕ → ℕ → ℕ → Bool
to_monitor code a cpsr scr hcr =
    code is MONITOR_TRAP
    || ((is_abort code && (external a && SCR_EA scr))
    || (code is SMC && not (trapped code cpsr scr hcr)))

-- "To Hyp: SMC from NS EL1 with TSC 1; Hyp Trap; HVC; any of codes 1, 2, 5, 6 from Hyp; those four from Non-secure User
-- with TGE 1; a stage 2 abort"
unfoldable pub to_hyp : ℕ → ℕ → ℕ → ℕ → ℕ → Bool
to_hyp code a cpsr scr hcr =
    trapped code cpsr scr hcr
    || (code is HYP_TRAP
    || (code is HVC
    || ((is_abort code && stage2 a)
    || (is_general code && (mode_field cpsr is HYP || (ns_user cpsr scr && HCR_TGE hcr))))))

-- "Else: Undefined, Supervisor, Abort, Abort for codes 1, 2, 5, 6"
abbrev pub own_mode : ℕ → ℕ
own_mode code =
    if code is UNDEFINED_INSTRUCTION then UNDEFINED else
    if code is SVC then SUPERVISOR else
    ABORT

-- "First fit, top down"
unfoldable pub target : ℕ → ℕ → ℕ → ℕ → ℕ → ℕ
target code a cpsr scr hcr =
    if to_monitor code a cpsr scr hcr then MONITOR else
    if to_hyp code a cpsr scr hcr then HYP else
    own_mode code

-- "Offsets"
abbrev pub own_offset : ℕ → ℕ
own_offset code =
    if code is UNDEFINED_INSTRUCTION then offsets.UNDEFINED else
    if code is MONITOR_TRAP then offsets.MONITOR_TRAP else
    if code among (SVC ∷ SMC ∷ HVC ∷ []) then offsets.CALL else
    if code is PREFETCH_ABORT then offsets.PREFETCH_ABORT else
    if code is DATA_ABORT then offsets.DATA_ABORT else
    offsets.HYP_TRAP

-- "Anything but IRQ and FIQ entering Hyp from another mode uses 0x14"
abbrev pub offset_to : ℕ → ℕ → ℕ → ℕ
offset_to to from own = if to is HYP && not (from is HYP) then offsets.HYP_TRAP else own

-- "Next address is PC + 2 for SVC with T 1, else PC + 4. The preferred return is the next address for SVC, HVC and SMC
-- (PC for a trapped SMC), else PC": how far it lies ahead of the PC
abbrev pub ahead : ℕ → ℕ → ℕ → ℕ → ℕ
ahead code cpsr scr hcr =
    if trapped code cpsr scr hcr then 0 else
    if code is SVC && CPSR_T cpsr then 2 else
    if code among (SVC ∷ HVC ∷ SMC ∷ []) then 4 else
    0

-- "LR of the target is the preferred return plus: Undefined and Monitor Trap 4, or 2 if T was 1; SVC, SMC 0; Prefetch
-- Abort, IRQ, FIQ 4; Data Abort, SError 8"
abbrev pub addend : ℕ → ℕ → ℕ
addend code cpsr =
    if code among (UNDEFINED_INSTRUCTION ∷ MONITOR_TRAP ∷ []) then (if CPSR_T cpsr then 2 else 4) else
    if code is PREFETCH_ABORT then 4 else
    if code is DATA_ABORT then 8 else
    0

-- "Hyp writes ELR_hyp with nothing added"
abbrev pub link_to : ℕ → ℕ → ℕ → ℕ
link_to to return more = wrap return (if to is HYP then 0 else more)

unfoldable pub offset : ℕ → ℕ → ℕ → ℕ → ℕ → ℕ
offset code a cpsr scr hcr = offset_to (target code a cpsr scr hcr) (mode_field cpsr) (own_offset code)

unfoldable pub link : ℕ → ℕ → ℕ → ℕ → ℕ → ℕ → ℕ
link code a cpsr scr hcr pc =
    link_to (target code a cpsr scr hcr) (wrap pc (ahead code cpsr scr hcr)) (addend code cpsr)

-- NOT_HERE: "HVC from User or Secure; SMC from User; Hyp Trap or a stage 2 abort from Secure or Hyp; Monitor Trap from
-- Monitor"
unfoldable pub not_here : ℕ → ℕ → ℕ → ℕ → Bool
not_here code a cpsr scr =
    (code is SMC && mode_field cpsr is USER)
    || ((code is HVC && (mode_field cpsr is USER || secure cpsr scr))
    || ((code is MONITOR_TRAP && mode_field cpsr is MONITOR)
    || ((code is HYP_TRAP || (is_abort code && stage2 a)) && (secure cpsr scr || mode_field cpsr is HYP))))

-- DISABLED (document 02, No. 8): SMC with SCR.SCD 1, unless HCR.TSC traps it, "since Arm tests the trap first"; HVC with SCR.HCE 0,
-- from Hyp too
unfoldable pub disabled : ℕ → ℕ → ℕ → ℕ → Bool
disabled code cpsr scr hcr =
    (code is SMC && (SCR_SCD scr && not (trapped code cpsr scr hcr)))
    || (code is HVC && not (SCR_HCE scr))

-- a debug abort that HDCR.TDE sends to Hyp (document 02, No. 11): "from Non-secure User or NS EL1 .. if HDCR.TDE (bit 8) is 1"
abbrev pub debug_trapped : ℕ → ℕ → ℕ → ℕ → ℕ → Bool
debug_trapped code a cpsr scr hdcr =
    (code is PREFETCH_ABORT && debug a) && ((ns_user cpsr scr || ns_el1 cpsr scr) && HDCR_TDE hdcr)

-- the A that an abort is routed by: such a one "goes to Hyp, at 0x14", as one of stage 2 does from there; "else as before", since
-- neither of the two bits that routing asks for is set
abbrev pub routed_a : ℕ → ℕ → ℕ → ℕ → ℕ → ℕ
routed_a code a cpsr scr hdcr = if debug_trapped code a cpsr scr hdcr then STAGE_2 else a

-- what an event comes to; one that is not synchronous has no way of its own
unfoldable pub way : ℕ → ℕ → ℕ → ℕ → ℕ → ℕ → Way
way code a cpsr scr hcr pc =
    if not (is_synchronous code) || not_here code a cpsr scr then Barred NOT_HERE else
    if disabled code cpsr scr hcr then Barred DISABLED else
    Enter (target code a cpsr scr hcr) (offset code a cpsr scr hcr) (link code a cpsr scr hcr pc)
