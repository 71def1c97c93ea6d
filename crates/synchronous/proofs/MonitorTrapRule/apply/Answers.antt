-- Not from Monitor, else taken to Monitor.
use Rattle.std.proofs.Common.{refl, ap, ◌∙◌}
use Rattle.entry.proofs.Ways.{monitor_trap_not_here, monitor_trap_taken}
use Rattle.entry.specs.Code.{MONITOR_TRAP}
use Rattle.entry.specs.Offset as offsets
use Rattle.entry.specs.Way.{Enter}
use Rattle.state.specs.Mode.{MONITOR}
use Rattle.state.specs.declared.refusal.Refusal.TheVariants.{NotHere}
use Rattle.synchronous.proofs.Routing.{beyond_range, in_range, told_mode, added, as_read, unread, barred, on_its_way}
use Rattle.synchronous.proofs.MonitorTrapRule.apply.Goals as goal

pub returns-then-not-are_within : goal.returns-then-not-are_within
returns-then-not-are_within c = beyond_range MONITOR_TRAP _ _ refl c.requires c.told-block c.are_within.ensures c.if-not-are_within.true

pub returns-then-eq : goal.returns-then-eq
returns-then-eq c =
    let here = in_range {code = MONITOR_TRAP} refl c.requires c.told-block c.are_within.ensures c.if-not-are_within.false in
    barred here NotHere (unread _ c.fits-block)
    (monitor_trap_not_here _ _ _ _ _ (told_mode _ _ c.mode.ensures c.eq.ensures c.if-eq.true))

pub returns : goal.returns
returns c =
    let here = in_range {code = MONITOR_TRAP} refl c.requires c.told-block c.are_within.ensures c.if-not-are_within.false in
    let pc = c.get_word in
    on_its_way here (as_read refl pc.ensures pc.type_inv)
    (ap (Enter MONITOR offsets.MONITOR_TRAP) (added _ c.narrow_of.ensures)
    ∙ monitor_trap_taken _ _ _ _ _ pc.type_inv (told_mode _ _ c.mode.ensures c.eq.ensures c.if-eq.false))
    c.send.ensures
