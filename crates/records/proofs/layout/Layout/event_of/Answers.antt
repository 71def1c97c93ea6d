-- The three words are read where the definition has them, and the layout sees the code as it sees the event.
use mathlib.Core.Path.{ap, ◌∙◌}
use Rattle.rules.specs.Known.{seen}
use Rattle.records.proofs.Judging.{event_read}
use Rattle.records.specs.Which.{old}
use Rattle.records.proofs.layout.Layout.event_of.Goals as goal

pub returns : goal.returns
returns c =
    c.seen_code.ensures c.word_at-2.result
    ∙ ap (seen (old c.args.self)) (event_read c.args.r.now _ _ _ c.word_at.ensures c.word_at-a.ensures c.word_at-2.ensures)
