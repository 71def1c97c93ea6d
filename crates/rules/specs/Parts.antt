-- What the code's own parts ask and answer. Nobody has to believe these: they stand between the code and the rules, and the
-- laws of proofs/ join them to `action`.
use Rattle.std.specs.Prelude.{Result, Ok, Err, IfOk, ◌≡◌, true, false, List, ℕ, ◌<◌, ◌^◌, if◌then◌else◌}
use Rattle.words.specs.Word.{word}
use Rattle.state.specs.Choice.{◌is◌}
use Rattle.state.specs.Mode.{is_target}
use Rattle.state.specs.Number.{DONE}
use Rattle.state.specs.Parts.{ReadFrom}
use Rattle.state.specs.Place.{PLACES}
use Rattle.state.specs.Refusal.{number}
use Rattle.state.specs.declared.refusal.Refusal.{Refusal}
use Rattle.state.specs.State.{fault}
use Rattle.state.specs.declared.state.Status.{Status}
use Rattle.entry.specs.Offset.{PREFETCH_ABORT}
use Rattle.rules.specs.Step.{Action, Refuse, Take, Quiet, Read, Put, Return, answer_to, block_after, answer_bytes}
use Rattle.rules.specs.Verdict.{Answer, answer_for, refused_with, entry_to, Verdict, Entry, NothingTaken, Register, Written, Returned}

-- a good block, and CPSR and SCR as they were read from it
abbrev pub Ready : List ℕ → Status → Type 0
Ready b status = ReadFrom b status × (fault b ≡ DONE)

-- the answer to what came of an event
abbrev pub answer_of : Result Verdict Refusal → Answer
answer_of (Ok v) = answer_for v
answer_of (Err r) = refused_with (number r)

-- what telling a verdict asks of it: its value fits a word
abbrev pub Small : Verdict → Type 0
Small (Entry x mode offset) = (mode.number < 32) × (offset < 32)
Small (NothingTaken lines) = Unit {0}
Small (Register w) = Unit {0}
Small (Written w) = Unit {0}
Small (Returned pc) = Unit {0}

abbrev pub SmallOutcome : Result Verdict Refusal → Type 0
SmallOutcome (Ok v) = Small v
SmallOutcome (Err r) = Unit {0}

-- the verdict of an action that is done; one that is refused has none
abbrev pub DoneAs : List ℕ → Action → Verdict → Type 0
DoneAs b (Refuse n) v = true ≡ false
DoneAs b (Take x to offset link) v = v ≡ entry_to x to offset
DoneAs b (Quiet lines) v = v ≡ NothingTaken lines
DoneAs b (Read p) v = v ≡ Register (word b p)
DoneAs b (Put p w) v = v ≡ Written w
DoneAs b (Return cpsr pc) v = v ≡ Returned pc

-- an action carried out, in the code's words: the block that it leaves, and what came of it, its verdict or its refusal, with the answer
-- that tells it
pub record CameTo (b : List ℕ) (x : Action) (o : Result Verdict Refusal) (l : List ℕ) : Type 0 where
  pub block : l ≡ block_after b x
  pub answer : answer_of o ≡ answer_to b x
  pub verdict : IfOk o (DoneAs b x)
  pub small : SmallOutcome o

-- an answer told: its number is returned and its bytes fill the buffer; its value is a word
abbrev pub Told : Answer → ℕ → List ℕ → Type 0
Told x n m = (n ≡ x.number) × (m ≡ answer_bytes x) × (x.value < 2 ^ 32)

-- an action carried out over an answer buffer: the block that it leaves, and its answer told
abbrev pub Carried : List ℕ → Action → ℕ → List ℕ → List ℕ → Type 0
Carried b x n l m = (l ≡ block_after b x) × Told (answer_to b x) n m

-- what the link of an abort has added, by the offset of the abort
abbrev pub abort_more : ℕ → ℕ
abort_more own = if own is PREFETCH_ABORT then 4 else 8

-- the word v put at the place p, unless n refuses it
unfoldable pub judged_put : ℕ → ℕ → ℕ → Action
judged_put p v n = if n is DONE then Put p v else Refuse n

-- what carrying an action out asks of it: its places lie in the block, an entry's target and offset are small, and its link
-- is a word
abbrev pub Sound : Action → Type 0
Sound (Refuse n) = Unit {0}
Sound (Take x to offset link) = (is_target to ≡ true) × (offset < 32) × (link < 2 ^ 32)
Sound (Quiet lines) = Unit {0}
Sound (Read p) = p < PLACES
Sound (Put p w) = p < PLACES
Sound (Return cpsr pc) = Unit {0}
