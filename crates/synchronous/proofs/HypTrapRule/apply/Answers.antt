-- Not from Secure or Hyp, else taken to Hyp.
use Rattle.std.proofs.Common.{refl}
use Rattle.entry.proofs.Ways.{hyp_trap_not_here, hyp_trap_taken}
use Rattle.entry.specs.Code.{HYP_TRAP}
use Rattle.state.proofs.Test.{told, first_of_two}
use Rattle.state.specs.declared.refusal.Refusal.TheVariants.{NotHere}
use Rattle.synchronous.proofs.Routing.{beyond_range, in_range, told_mode, second_tells, as_read, unread, barred, on_its_way}
use Rattle.synchronous.proofs.HypTrapRule.apply.Goals as goal

pub returns-then-not-are_within : goal.returns-then-not-are_within
returns-then-not-are_within c = beyond_range HYP_TRAP _ _ refl c.requires c.told-block c.are_within.ensures c.if-not-are_within.true

pub returns-then-is_secure : goal.returns-then-is_secure
returns-then-is_secure c =
    let here = in_range {code = HYP_TRAP} refl c.requires c.told-block c.are_within.ensures c.if-not-are_within.false in
    barred here NotHere (unread _ c.fits-block)
    (hyp_trap_not_here _ _ _ _ _ (first_of_two _ _ (told c.is_secure.ensures c.if-is_secure.true)))

pub returns-then-eq : goal.returns-then-eq
returns-then-eq c =
    let here = in_range {code = HYP_TRAP} refl c.requires c.told-block c.are_within.ensures c.if-not-are_within.false in
    barred here NotHere (unread _ c.fits-block)
    (hyp_trap_not_here _ _ _ _ _
    (second_tells (told c.is_secure.ensures c.if-is_secure.false) (told_mode _ _ c.mode.ensures c.eq.ensures c.if-eq.true)))

pub returns : goal.returns
returns c =
    let here = in_range {code = HYP_TRAP} refl c.requires c.told-block c.are_within.ensures c.if-not-are_within.false in
    let pc = c.get_word in
    on_its_way here (as_read refl pc.ensures pc.type_inv)
    (hyp_trap_taken _ _ _ _ _ pc.type_inv
    (second_tells (told c.is_secure.ensures c.if-is_secure.false) (told_mode _ _ c.mode.ensures c.eq.ensures c.if-eq.false)))
    c.send.ensures
