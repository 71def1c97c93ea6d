-- The set holds the modes that a good block is not in, so it answers for every row but that of bits 24 to 21.
use mathlib.Core.Path.{◌∙◌}
use borrow.Author.Tests.{eq-eqb, ne_eqb}
use Rattle.state.proofs.Good.{in_bad_mode, not_clear, is_good}
use Rattle.state.proofs.state.Status.judge.Goals as goal

pub returns-then-bad_modes-self-eq1 : goal.returns-then-bad_modes-self-eq1
returns-then-bad_modes-self-eq1 c =
    let set = c.bad_modes in
    c.mode_fault.ensures ∙ in_bad_mode _ _ _ set.result set.ensures (eq-eqb _ _ c.if-bad_modes-self-eq1.true)

pub returns-then-self-ne0 : goal.returns-then-self-ne0
returns-then-self-ne0 c =
    let set = c.bad_modes in
    not_clear _ _ _ set.result set.ensures (ne_eqb _ _ c.if-bad_modes-self-eq1.false) (ne_eqb _ _ c.if-self-ne0.true)

pub returns : goal.returns
returns c =
    let set = c.bad_modes in
    is_good _ _ _ set.result set.ensures (ne_eqb _ _ c.if-bad_modes-self-eq1.false) (eq-eqb _ _ c.if-self-ne0.false)
