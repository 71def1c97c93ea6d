-- The virtual lines, 8 and 16 of an interrupt check, which document 02, No. 13, retired for a direct step: what it says of them, and of
-- every other event.
use Rattle.std.specs.Prelude.{◌≡◌, true, false, List, ℕ, length}
use Rattle.state.specs.Number.{DONE, BAD_EVENT}
use Rattle.state.specs.Place.{BLOCK_SIZE}
use Rattle.state.specs.State.{fault}
use Rattle.rules.specs.Direct.{direct_answer, direct_after}
use Rattle.rules.specs.Event.{INTERRUPT_CHECK}
use Rattle.rules.specs.Known.{virtual_lines, unknown_to_new, direct}
use Rattle.rules.specs.Verdict.{refused_with}
use Rattle.rules.specs.declared.event.Event.{Event}

-- an interrupt check with these lines; B may be any word
abbrev pub check_of : ℕ → ℕ → Event
check_of lines w = record { code = INTERRUPT_CHECK; a = lines; b = w }

pub record LineTheorems : Type 0 where
  -- "for every direct step, lines 8 and 16 of event 9 become BAD_EVENT": on a good block, with either line or both and whatever others, it
  -- answers 4, the value 0, and leaves the block
  pub retired : (b : List ℕ) (lines w : ℕ) → length b ≡ BLOCK_SIZE → fault b ≡ DONE → virtual_lines lines ≡ true
      → (direct_answer b (check_of lines w) ≡ refused_with BAD_EVENT) × (direct_after b (check_of lines w) ≡ b)
  -- any other event, a check without them among them, is the machine's own
  pub others_stay : (e : Event) → unknown_to_new e ≡ false → direct e ≡ e
  -- and no event is let in: what is seen is known
  pub seen_is_known : (e : Event) → unknown_to_new (direct e) ≡ false
