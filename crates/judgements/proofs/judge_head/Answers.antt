-- The first word is that of the head due exactly where both halves are.
use mathlib.Core.Path.{sym, ◌∙◌}
use Rattle.records.proofs.Faults.{head_short, head_cut, head_right}
use Rattle.records.proofs.Judging.{word_bad, word_right}
use Rattle.judgements.proofs.judge_head.Goals as goal

pub returns-then-r-lt-HEAD_SIZE : goal.returns-then-r-lt-HEAD_SIZE
returns-then-r-lt-HEAD_SIZE c = sym (head_short _ _ c.args.r.now c.if-r-lt-HEAD_SIZE.true)

pub returns-then-word_at-size : goal.returns-then-word_at-size
returns-then-word_at-size c =
    sym (word_bad _ _ _ (λ i. (c.type_inv.r i).fits) c.requires.0 c.if-r-lt-HEAD_SIZE.false
    (λ e. c.if-word_at-size.true (c.word_at.ensures ∙ e)))

pub returns-then-r-size : goal.returns-then-r-size
returns-then-r-size c =
    let h = word_right _ _ _ (λ i. (c.type_inv.r i).fits) c.requires.0 (sym c.word_at.ensures ∙ c.if-word_at-size.false) in
    sym (head_cut _ _ _ c.if-r-lt-HEAD_SIZE.false h.0 h.1 c.if-r-size.true)

pub returns : goal.returns
returns c =
    let h = word_right _ _ _ (λ i. (c.type_inv.r i).fits) c.requires.0 (sym c.word_at.ensures ∙ c.if-word_at-size.false) in
    sym (head_right _ _ _ c.if-r-lt-HEAD_SIZE.false h.0 h.1 c.if-r-size.false)
