-- Many events in one call (document 02, No. 2): a lent list of events, a list of answers of equal length, and one block.
-- Afterwards block and answers are those of single direct steps done in order; an event that is refused has its number, and the rest
-- go on. Unequal lengths, or a block that has not its size, are BAD-SIZE and change nothing.
use Rattle.std.specs.Prelude.{◌≡◌, Bool, ◌&&◌, List, ℕ, length, if◌then◌else◌}
use Rattle.state.specs.Choice.{◌is◌}
use Rattle.state.specs.Number.{DONE, BAD_SIZE}
use Rattle.state.specs.Place.{BLOCK_SIZE}
use Rattle.rules.specs.declared.event.Event.{Event}
use Rattle.rules.specs.declared.verdict.Answer.{Answer}
use Rattle.rules.specs.Direct.{direct_run, direct_answers}

-- do the lengths go together?
abbrev pub suits : List Event → List Answer → List ℕ → Bool
suits es room b = (length es is length room) && (length b is BLOCK_SIZE)

-- what a batch of es on the block b, over a list of answers, returns and leaves
pub record Batched (es : List Event) (room : List Answer) (b : List ℕ) (n : ℕ) (room' : List Answer) (b' : List ℕ) : Type 0 where
  pub number : n ≡ (if suits es room b then DONE else BAD_SIZE)
  pub answered : room' ≡ (if suits es room b then direct_answers b es else room)
  pub block : b' ≡ (if suits es room b then direct_run b es else b)
