-- The operands, and then the abort by its own offset.
use Rattle.std.proofs.Common.{refl}
use Rattle.entry.proofs.Ways.{data_abort}
use Rattle.entry.specs.Code.{DATA_ABORT}
use Rattle.synchronous.proofs.Routing.{beyond_range, in_range, unread, on_its_way}
use Rattle.synchronous.proofs.DataAbortRule.apply.Goals as goal

pub returns-then-not-are_within : goal.returns-then-not-are_within
returns-then-not-are_within c = beyond_range DATA_ABORT _ _ refl c.requires c.told-block c.are_within.ensures c.if-not-are_within.true

pub returns : goal.returns
returns c =
    let here = in_range {code = DATA_ABORT} refl c.requires c.told-block c.are_within.ensures c.if-not-are_within.false in
    let words = unread c.args.block.now c.fits-block in
    on_its_way here words (data_abort _ _ _ _ _ words.fits) c.abort.ensures
