-- An entry goes to a mode with a saved state of its own, so with a place for it, at an offset of the vector table.
use Rattle.std.proofs.Common.{◌≡◌, ℕ, ◌<◌, Bool, true, false, not, ◌&&◌, [], ◌∷◌, refl, arith, lit<, if◌then◌else◌}
use Rattle.std.proofs.Common.{Option, None, Some}
use Rattle.std.specs.Option.{IsSome}
use Rattle.state.specs.Choice.{◌is◌, ◌among◌}
use Rattle.state.specs.Field.{mode_field}
use Rattle.state.specs.Mode.{MONITOR, HYP, targets, is_target, spsr_place, lr_place}
use Rattle.state.specs.Parts.{place_or_none}
use Rattle.state.specs.Place.{PLACES}
use Rattle.state.proofs.Laws.{spsr_inside, lr_inside}
use Rattle.entry.specs.Code.{UNDEFINED_INSTRUCTION, SVC, SMC, HVC, PREFETCH_ABORT, DATA_ABORT, MONITOR_TRAP}
use Rattle.entry.specs.Route.{to_monitor, to_hyp, own_mode, target, own_offset, offset_to, offset}

-- of two, whichever the test chooses
pub chosen : {A : Type 0} (P : A → Type 0) (t : Bool) {x y : A} → P x → P y → P (if t then x else y)
chosen P true p q = p
chosen P false p q = q

abbrev pub IsTarget : ℕ → Type 0
IsTarget m = is_target m ≡ true

-- one of the list of targets, as antt computes it
pub listed : (m : ℕ) → (m among targets) ≡ true → IsTarget m
unfolding is_target
listed m h = h

-- a place in the block is no mark for none, so a target has both of its places
in_block : (o : Option ℕ) {p : ℕ} → place_or_none o ≡ p → p < PLACES → IsSome o
in_block None e h = absurd (omega arith)
in_block (Some x) e h = refl

pub has_spsr : (o : Option ℕ) (m : ℕ) → place_or_none o ≡ spsr_place m → (m among targets) ≡ true → IsSome o
has_spsr o m e h = in_block o e (spsr_inside m (listed m h))

pub has_lr : (o : Option ℕ) (m : ℕ) → place_or_none o ≡ lr_place m → (m among targets) ≡ true → IsSome o
has_lr o m e h = in_block o e (lr_inside m (listed m h))

own_target : (code : ℕ) → IsTarget (own_mode code)
unfolding is_target
own_target code =
    chosen IsTarget (code is UNDEFINED_INSTRUCTION) refl (chosen IsTarget (code is SVC) refl refl)

pub target_is_one : (code a cpsr scr hcr : ℕ) → IsTarget (target code a cpsr scr hcr)
unfolding target
target_is_one code a cpsr scr hcr =
    chosen IsTarget (to_monitor code a cpsr scr hcr) (listed MONITOR refl)
    (chosen IsTarget (to_hyp code a cpsr scr hcr) (listed HYP refl) (own_target code))

abbrev pub IsOffset : ℕ → Type 0
IsOffset n = n < 32

pub offset_to_small : (to from own : ℕ) → IsOffset own → IsOffset (offset_to to from own)
offset_to_small to from own h = chosen IsOffset (to is HYP && not (from is HYP)) (lit< tt) h

own_small : (code : ℕ) → IsOffset (own_offset code)
own_small code =
    chosen IsOffset (code is UNDEFINED_INSTRUCTION) (lit< tt)
    (chosen IsOffset (code is MONITOR_TRAP) (lit< tt)
    (chosen IsOffset (code among (SVC ∷ SMC ∷ HVC ∷ [])) (lit< tt)
    (chosen IsOffset (code is PREFETCH_ABORT) (lit< tt) (chosen IsOffset (code is DATA_ABORT) (lit< tt) (lit< tt)))))

pub offset_small : (code a cpsr scr hcr : ℕ) → IsOffset (offset code a cpsr scr hcr)
unfolding offset
offset_small code a cpsr scr hcr =
    offset_to_small (target code a cpsr scr hcr) (mode_field cpsr) (own_offset code) (own_small code)
