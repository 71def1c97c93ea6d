-- Not from User or Secure, disabled with HCE 0, else taken to Hyp.
use Rattle.std.proofs.Common.{refl, sym, ◌∙◌}
use Rattle.entry.proofs.Ways.{hvc_not_here, hvc_disabled, hvc_taken}
use Rattle.entry.specs.Code.{HVC}
use Rattle.state.proofs.Test.{told, first_of_two}
use Rattle.state.specs.declared.refusal.Refusal.TheVariants.{NotHere, Disabled}
use Rattle.synchronous.proofs.Routing.{beyond_range, in_range, told_mode, second_tells, as_read, unread, barred, on_its_way}
use Rattle.synchronous.proofs.HvcRule.apply.Goals as goal

pub returns-then-not-are_within : goal.returns-then-not-are_within
returns-then-not-are_within c = beyond_range HVC _ _ refl c.requires c.told-block c.are_within.ensures c.if-not-are_within.true

pub returns-then-eq : goal.returns-then-eq
returns-then-eq c =
    let here = in_range {code = HVC} refl c.requires c.told-block c.are_within.ensures c.if-not-are_within.false in
    barred here NotHere (unread _ c.fits-block)
    (hvc_not_here _ _ _ _ _ (first_of_two _ _ (told_mode _ _ c.mode.ensures c.eq.ensures c.if-eq.true)))

pub returns-then-is_secure : goal.returns-then-is_secure
returns-then-is_secure c =
    let here = in_range {code = HVC} refl c.requires c.told-block c.are_within.ensures c.if-not-are_within.false in
    barred here NotHere (unread _ c.fits-block)
    (hvc_not_here _ _ _ _ _
    (second_tells (told_mode _ _ c.mode.ensures c.eq.ensures c.if-eq.false) (told c.is_secure.ensures c.if-is_secure.true)))

pub returns-then-not-is_set : goal.returns-then-not-is_set
returns-then-not-is_set c =
    let here = in_range {code = HVC} refl c.requires c.told-block c.are_within.ensures c.if-not-are_within.false in
    barred here Disabled (unread _ c.fits-block)
    (hvc_disabled _ _ _ _ _
    (second_tells (told_mode _ _ c.mode.ensures c.eq.ensures c.if-eq.false) (told c.is_secure.ensures c.if-is_secure.false))
    (told c.is_set.ensures c.if-not-is_set.true))

pub returns : goal.returns
returns c =
    let here = in_range {code = HVC} refl c.requires c.told-block c.are_within.ensures c.if-not-are_within.false in
    let pc = c.get_word-next in
    on_its_way here (as_read refl pc.ensures pc.type_inv)
    (sym c.hyp_entry.ensures
    ∙ hvc_taken _ _ _ _ _ pc.type_inv
    (second_tells (told_mode _ _ c.mode.ensures c.eq.ensures c.if-eq.false) (told c.is_secure.ensures c.if-is_secure.false))
    (told c.is_set.ensures c.if-not-is_set.false))
    c.send.ensures
