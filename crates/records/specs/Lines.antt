-- The virtual lines of an interrupt check in the two layouts (document 02, No. 13): "For Start kind 4 .. lines 8 and 16 of event 9 become
-- BAD_EVENT. Traces of kind 1 are still judged with both lines". A trace is published, and judged, by the answer and the block after that
-- its layout has.
use Rattle.std.specs.Prelude.{◌≡◌, true, List, ℕ, length, take, if◌then◌else◌}
use Rattle.state.specs.Number.{DONE, BAD_EVENT}
use Rattle.state.specs.Place.{OLD_BLOCK_SIZE}
use Rattle.state.specs.State.{fault}
use Rattle.rules.specs.Direct.{direct_answer, direct_after}
use Rattle.rules.specs.Known.{NO_CODE, virtual_lines, unknown_to_old}
use Rattle.rules.specs.Step.{answer, after}
use Rattle.rules.specs.Verdict.{refused_with}
use Rattle.rules.specs.declared.event.Event.{Event}
use Rattle.machine.specs.Lines.{check_of}
use Rattle.records.specs.Layout.{with_hdcr0, old_layout, new_layout}

-- what the old layout saw of an event before this request, when No. 11 landed; no other definition, no contract and no code goes by it
abbrev pub formerly_seen : Event → Event
formerly_seen e = if unknown_to_old e then record { code = NO_CODE; a = e.a; b = e.b } else e

pub record LinesByLayout : Type 0 where
  -- every event of the old layout is answered as before, and leaves what it left
  pub old_as_before : (b : List ℕ) (e : Event)
      → (old_layout.answer b e ≡ answer (with_hdcr0 b) (formerly_seen e))
      × (old_layout.after b e ≡ take OLD_BLOCK_SIZE (after (with_hdcr0 b) (formerly_seen e)))
  -- so a check is the machine's own there, whatever its lines
  pub old_checks : (b : List ℕ) (lines w : ℕ)
      → (old_layout.answer b (check_of lines w) ≡ answer (with_hdcr0 b) (check_of lines w))
      × (old_layout.after b (check_of lines w) ≡ take OLD_BLOCK_SIZE (after (with_hdcr0 b) (check_of lines w)))
  -- of the new layout it is 4 on a good block, and leaves it
  pub new_refuses : (b : List ℕ) (lines w : ℕ) → length b ≡ new_layout.size → fault b ≡ DONE → virtual_lines lines ≡ true
      → (new_layout.answer b (check_of lines w) ≡ refused_with BAD_EVENT) × (new_layout.after b (check_of lines w) ≡ b)
  -- and each of its Steps is a direct one
  pub new_is_direct : (b : List ℕ) (e : Event)
      → (new_layout.answer b e ≡ direct_answer b e) × (new_layout.after b e ≡ direct_after b e)
