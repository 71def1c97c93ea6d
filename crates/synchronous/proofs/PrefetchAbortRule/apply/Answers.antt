-- The operands, the A that it is routed by, and then the abort by its own offset.
use Rattle.std.proofs.Common.{◌≡◌, ℕ, refl, ap, ◌∙◌}
use Rattle.entry.proofs.Ways.{prefetch_abort}
use Rattle.entry.specs.Code.{PREFETCH_ABORT}
use Rattle.entry.specs.Route.{routed_a, way}
use Rattle.entry.specs.Way.{Way}
use Rattle.state.specs.Place.{HCR, PC}
use Rattle.words.specs.Word.{word}
use Rattle.synchronous.proofs.Routing.{beyond_range, in_range, its_a, unread, on_its_way}
use Rattle.synchronous.proofs.PrefetchAbortRule.apply.Goals as goal

pub returns-then-not-are_within : goal.returns-then-not-are_within
returns-then-not-are_within c = beyond_range PREFETCH_ABORT _ _ refl c.requires c.told-block c.are_within.ensures c.if-not-are_within.true

pub returns : goal.returns
returns c =
    let here = in_range {code = PREFETCH_ABORT} refl c.requires c.told-block c.are_within.ensures c.if-not-are_within.false in
    let words = unread c.args.block.now c.fits-block in
    let status = c.args.status in
    let routed : c.routed_a-routed.result ≡ its_a here =
    c.routed_a-routed.ensures ∙ ap (routed_a PREFETCH_ABORT c.args.operands.a status.cpsr status.scr) c.get_word.ensures in
    let as_routed : ℕ → Way =
    λ n. way PREFETCH_ABORT n status.cpsr status.scr (word c.args.block.now HCR) (word c.args.block.now PC) in
    on_its_way here words (prefetch_abort _ _ _ _ _ words.fits ∙ ap as_routed routed) c.abort.ensures
