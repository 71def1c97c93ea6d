-- What the guest can learn, in the words of the batch that C calls (document 02, No. 12): two calls of `pomurica_batch` on two guests,
-- with the same list of banked accesses and a list of answers of its length each.
use Rattle.std.specs.Prelude.{◌≡◌, List, ℕ, length}
use Rattle.state.specs.Number.{DONE}
use Rattle.rules.specs.declared.event.Event.{Event}
use Rattle.rules.specs.declared.verdict.Answer.{Answer}
use Rattle.machine.specs.Guest.{Alike, Guests, AllBanked, KeptInside}
use Rattle.console.specs.Batch.{Batched}

-- a call: what it was given, what it returned, and what it left in the list of answers and in the block
pub record Call (es : List Event) : Type 0 where
  pub room : List Answer
  pub block : List ℕ
  pub number : ℕ
  pub told : List Answer
  pub left : List ℕ
  pub fits : length es ≡ length room
  pub batched : Batched es room block number told left

-- both return DONE and leave the same answers, and blocks that are alike outside the exempt places and keep each its own inside
pub record SameToBoth {es : List Event} (one other : Call es) : Type 0 where
  pub one_done : one.number ≡ DONE
  pub other_done : other.number ≡ DONE
  pub same_answers : one.told ≡ other.told
  pub alike : Alike one.left other.left
  pub one_keeps : KeptInside one.block one.left
  pub other_keeps : KeptInside other.block other.left

pub record GuestTheorems : Type 0 where
  pub same_to_both : {es : List Event} (one other : Call es) → Guests one.block other.block → AllBanked es
      → SameToBoth one other
