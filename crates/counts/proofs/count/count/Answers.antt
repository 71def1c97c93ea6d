-- The report is the checker's; of an accepted trace the tally is what its Steps add, and every sum is a word or the trace is
-- refused whole.
use mathlib.Core.Path.{◌∙◌}
use Rattle.words.specs.Word.{Bytes}
use Rattle.records.specs.Layout.{is_old, layout_of}
use Rattle.records.proofs.Lawfuls.{lawful}
use Rattle.counts.proofs.Bumping.{tally_none}
use Rattle.counts.proofs.Reading.{steps-few, steps-whole, bad_size, refused, found_full, found_done}
use Rattle.counts.proofs.count.count.Goals as goal

pub returns-in_default : goal.returns-in_default
returns-in_default c =
    let said = bad_size (layout_of c.args.trace.now) c.args.trace.now c.args.counts.now c.in_default.ensures.cases in
    record { returns = c.number.ensures.value ∙ said.0; leaves = said.1 }

pub returns-then-report-ne-DONE : goal.returns-then-report-ne-DONE
returns-then-report-ne-DONE c =
    let whole = c.in-Some.ensures.cases in
    let said = refused (layout_of c.args.trace.now) c.args.trace.now c.args.counts.now whole.long _
    c.check-report.ensures.report c.if-report-ne-DONE.true in
    record { returns = said.0; leaves = whole.same ∙ said.1 }

pub count_steps-requires : goal.count_steps-requires
count_steps-requires c =
    let s = c.args.trace.now in
    let own = layout_of s in
    let law = lawful (is_old s) in
    let bytes : Bytes s = λ i. (c.type_inv.trace i).fits in
    let ok = c.if-report-ne-DONE.false in
    let is = c.check-report.ensures.report in
    (steps-few own law s bytes _ is ok, rw c.of.ensures (steps-whole own law s bytes _ is ok), tally_none)

pub returns-then-not-fits : goal.returns-then-not-fits
returns-then-not-fits c =
    let s = c.args.trace.now in
    let bytes : Bytes s = λ i. (c.type_inv.trace i).fits in
    let whole = c.in-Some.ensures.cases in
    let tally = rw c.of.ensures at c.count_steps.ensures in
    let fits = rw whole.same at c.fits.ensures in
    let said = found_full (layout_of s) (lawful (is_old s)) s c.args.counts.now _ bytes whole.long _
    c.check-report.ensures.report c.if-report-ne-DONE.false tally _ fits c.if-not-fits.true in
    record { returns = c.number-then-not-fits.ensures.value ∙ said.0; leaves = whole.same ∙ said.1 }

pub add-requires : goal.add-requires
add-requires c = c.fits.ensures.0 c.if-not-fits.false

pub returns : goal.returns
returns c =
    let s = c.args.trace.now in
    let bytes : Bytes s = λ i. (c.type_inv.trace i).fits in
    let whole = c.in-Some.ensures.cases in
    let tally = rw c.of.ensures at c.count_steps.ensures in
    let fits = rw whole.same at c.fits.ensures in
    let sums = rw whole.same at c.add.ensures in
    let said = found_done (layout_of s) (lawful (is_old s)) s c.args.counts.now _ bytes whole.long _
    c.check-report.ensures.report c.if-report-ne-DONE.false tally _ fits c.if-not-fits.false _ sums in
    record { returns = said.0; leaves = said.1 }
