-- The session comes to what all bytes make of it with those that are left, and the block and the record have the layout's sizes still.
use Rattle.std.proofs.Common.{◌≡◌, length}
use Rattle.records.specs.Session.{session, fed}
use Rattle.records.specs.Which.{old, its}
use Rattle.records.specs.Fed.{Room}
use Rattle.session.proofs.feed_in.Given as goal

abbrev pub invariant-loop-rest : goal.invariant-loop-rest
invariant-loop-rest l =
    (fed (its l.layout) (session l.q l.block l.unfinished) l.rest
    ≡ fed (its l.layout) (session l.initial.q l.initial.block l.initial.unfinished) l.bytes)
    × Room (old l.layout) l.block l.unfinished

abbrev pub decreases-loop-rest : goal.decreases-loop-rest
decreases-loop-rest l = length l.rest
