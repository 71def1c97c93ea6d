-- Not from User, trapped from NS EL1 with TSC 1, disabled with SCD 1, else taken to Monitor.
use Rattle.std.proofs.Common.{refl}
use Rattle.entry.proofs.Ways.{smc_not_here, smc_trapped, smc_disabled, smc_taken}
use Rattle.entry.specs.Code.{SMC}
use Rattle.state.proofs.Test.{told}
use Rattle.state.specs.declared.refusal.Refusal.TheVariants.{NotHere, Disabled}
use Rattle.synchronous.proofs.Routing.{beyond_range, in_range, told_mode, as_read, unread, barred, on_its_way}
use Rattle.synchronous.proofs.SmcRule.apply.Goals as goal

pub returns-then-not-are_within : goal.returns-then-not-are_within
returns-then-not-are_within c = beyond_range SMC _ _ refl c.requires c.told-block c.are_within.ensures c.if-not-are_within.true

pub returns-then-eq : goal.returns-then-eq
returns-then-eq c =
    let here = in_range {code = SMC} refl c.requires c.told-block c.are_within.ensures c.if-not-are_within.false in
    barred here NotHere (unread _ c.fits-block)
    (smc_not_here _ _ _ _ _ (told_mode _ _ c.mode.ensures c.eq.ensures c.if-eq.true))

-- a trapped SMC enters Hyp at 0x14 and returns to itself
pub returns-then-is_trapped : goal.returns-then-is_trapped
returns-then-is_trapped c =
    let here = in_range {code = SMC} refl c.requires c.told-block c.are_within.ensures c.if-not-are_within.false in
    let pc = c.get_word-pc in
    on_its_way here (as_read c.get_word.ensures pc.ensures pc.type_inv)
    (smc_trapped _ _ _ _ _ pc.type_inv (told_mode _ _ c.mode.ensures c.eq.ensures c.if-eq.false)
    (told c.is_trapped.ensures c.if-is_trapped.true))
    c.send.ensures

pub returns-then-is_set : goal.returns-then-is_set
returns-then-is_set c =
    let here = in_range {code = SMC} refl c.requires c.told-block c.are_within.ensures c.if-not-are_within.false in
    let pc = c.get_word-pc in
    barred here Disabled (as_read c.get_word.ensures pc.ensures pc.type_inv)
    (smc_disabled _ _ _ _ _ (told_mode _ _ c.mode.ensures c.eq.ensures c.if-eq.false)
    (told c.is_trapped.ensures c.if-is_trapped.false) (told c.is_set.ensures c.if-is_set.true))

pub returns : goal.returns
returns c =
    let here = in_range {code = SMC} refl c.requires c.told-block c.are_within.ensures c.if-not-are_within.false in
    let pc = c.get_word-pc in
    on_its_way here (as_read c.get_word.ensures pc.ensures pc.type_inv)
    (smc_taken _ _ _ _ _ pc.type_inv (told_mode _ _ c.mode.ensures c.eq.ensures c.if-eq.false)
    (told c.is_trapped.ensures c.if-is_trapped.false) (told c.is_set.ensures c.if-is_set.false))
    c.send-2.ensures
