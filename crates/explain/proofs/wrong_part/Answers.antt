-- A wrong Step lies whole within the string, behind the block that the events before lead to.
use mathlib.Core.Path.{◌∙◌}
use Rattle.records.proofs.Lawfuls.{lawful}
use Rattle.records.specs.Layout.{layout_of, is_old}
use Rattle.explain.proofs.Explaining.{wrong_explained, wrong_place}
use Rattle.explain.proofs.wrong_part.Goals as goal

pub difference_at-requires : goal.difference_at-requires
difference_at-requires c =
    let s = c.args.trace.now in
    rw c.of.ensures
    (wrong_place (layout_of s) s _ c.requires (lawful (is_old s)) (λ i. (c.type_inv.trace i).fits)
    (c.if-report-number.false ∙ c.number.ensures.value))

pub returns : goal.returns
returns c =
    let s = c.args.trace.now in
    wrong_explained (layout_of s) s _ c.requires (lawful (is_old s)) (λ i. (c.type_inv.trace i).fits)
    (c.if-report-number.false ∙ c.number.ensures.value) _ (rw c.of.ensures at c.difference_at.ensures)
