-- With a fault that becomes known all is forgotten but the numbers.
use Rattle.std.proofs.Common.{sym, ◌∙◌}
use Rattle.records.specs.Session.{session}
use Rattle.records.specs.Which.{old}
use Rattle.records.proofs.Rooms.{fed_cleared}
use Rattle.session.proofs.feed.Goals as goal

pub returns-then-newly : goal.returns-then-newly
returns-then-newly c =
    let x = c.args in
    let fed = c.feed_front-q in
    let left = session fed.result fed.new.block fed.new.unfinished in
    fed_cleared (session x.p x.block.now x.unfinished.now) x.bytes.now (old c.coming_layout-layout.result)
    c.coming_layout-layout.ensures left fed.ensures (sym c.newly.ensures ∙ c.if-newly.true)
