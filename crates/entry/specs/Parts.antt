-- What the code's own parts answer. Nobody has to believe these: they stand between the code and the rules, and the laws
-- of proofs/ join them to `way` and `entered`.
use Rattle.std.specs.Prelude.{◌≡◌, ℕ, ◌+◌, Bool, ◌&&◌, ◌||◌, if◌then◌else◌}
use Rattle.state.specs.Choice.{◌is◌}
use Rattle.state.specs.Field.{flag, mode_field, CPSR_T, SCR_NS, SCR_EA, HCR_TGE}
use Rattle.state.specs.Mode.{HYP, MONITOR, ABORT}
use Rattle.state.specs.Number.{NOT_HERE}
use Rattle.state.specs.State.{secure, ns_user}
use Rattle.entry.specs.Code.{external, stage2}
use Rattle.entry.specs.Enter.{sets_a, sets_i, sets_f}
use Rattle.entry.specs.Route.{wrap, offset_to}
use Rattle.entry.specs.declared.entry.Entry.{Entry}
use Rattle.entry.specs.Way.{Way, Barred, Enter}

-- 2 with T 1, else 4: the length of an SVC, and what the link of Undefined and Monitor Trap has added
abbrev pub narrow : ℕ → ℕ
narrow cpsr = if CPSR_T cpsr then 2 else 4

-- one of codes 1, 2, 5, 6 goes to Hyp
abbrev pub general_to_hyp : ℕ → ℕ → ℕ → Bool
general_to_hyp cpsr scr hcr = mode_field cpsr is HYP || (ns_user cpsr scr && HCR_TGE hcr)

-- an abort with the offset `own` and `more` added to its link: all in which the two differ
unfoldable pub abort_way : ℕ → ℕ → ℕ → ℕ → ℕ → ℕ → ℕ → Way
abort_way own more a cpsr scr hcr pc =
    if stage2 a && (secure cpsr scr || mode_field cpsr is HYP) then Barred NOT_HERE else
    if external a && SCR_EA scr then Enter MONITOR own (wrap pc more) else
    if stage2 a || general_to_hyp cpsr scr hcr then Enter HYP (offset_to HYP (mode_field cpsr) own) pc else
    Enter ABORT own (wrap pc more)

-- the masks A I F that an entry sets, as a number of three bits
abbrev pub sets_number : ℕ → ℕ → ℕ
sets_number to scr = flag 2 (sets_a to scr) + flag 1 (sets_i to scr) + flag 0 (sets_f to scr)

-- of a word that is banked by Security state, the place of the one in use; the Non-secure one's comes next
abbrev pub own_place : ℕ → ℕ → ℕ
own_place secure scr = if SCR_NS scr then secure + 1 else secure

-- an entry of the code that goes this way
abbrev pub Enters : Way → Entry → Type 0
Enters x entry = x ≡ Enter entry.to.number entry.offset entry.link
