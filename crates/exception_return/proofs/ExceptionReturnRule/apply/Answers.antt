-- By the place of the saved word, the saved word and the operands, in the order of the tests.
use Rattle.exception_return.proofs.Returning.{may_leave, has_link, none_wrong, none_right, unfit, some_wrong, done}
use Rattle.exception_return.proofs.ExceptionReturnRule.apply.Goals as goal

-- ---- no place: no saved word

pub returns-then-wrong : goal.returns-then-wrong
returns-then-wrong c =
    let p = c.requires in
    none_wrong _ _ _ p.0.0 p.0.1 c.told-block p.1 c.mode-mode.ensures c.is_wrong_a.ensures c.in_default.ensures.place c.if-wrong.true

pub returns-in_default : goal.returns-in_default
returns-in_default c =
    let p = c.requires in
    none_right _ _ _ p.0.0 p.0.1 c.told-block p.1 c.mode-mode.ensures c.is_wrong_a.ensures c.in_default.ensures.place c.if-wrong.false

-- ---- a place: the saved word

pub returns-then-is_bad_saved : goal.returns-then-is_bad_saved
returns-then-is_bad_saved c =
    let p = c.requires in
    let some = c.in-Some.ensures in
    unfit _ _ _ p.0.0 p.0.1 c.told-block p.1 c.mode-mode.ensures c.is_wrong_a.ensures some.place some.inside c.get_word-saved.ensures
    c.is_bad_saved.ensures c.if-is_bad_saved.true

pub returns-then-wrong-2 : goal.returns-then-wrong-2
returns-then-wrong-2 c =
    let p = c.requires in
    let some = c.in-Some.ensures in
    some_wrong _ _ _ p.0.0 p.0.1 c.told-block p.1 c.mode-mode.ensures c.is_wrong_a.ensures some.place some.inside
    c.get_word-saved.ensures c.is_bad_saved.ensures c.if-is_bad_saved.false c.if-wrong-2.true

-- ---- the return

pub unwrap-requires : goal.unwrap-requires
unwrap-requires c =
    let some = c.in-Some.ensures in
    has_link c.args.status.cpsr c.mode-mode.ensures some.place some.inside _ c.lr_place.ensures.place

pub leave-requires : goal.leave-requires
leave-requires c =
    let p = c.requires in
    let some = c.in-Some.ensures in
    (p.0, may_leave c.args.status.cpsr c.mode-mode.ensures some.place some.inside _ p.0.0 p.0.1 p.1)

pub returns : goal.returns
returns c =
    let p = c.requires in
    let some = c.in-Some.ensures in
    done _ _ _ p.0.0 p.0.1 c.told-block p.1 c.mode-mode.ensures c.is_wrong_a.ensures some.place some.inside c.get_word-saved.ensures
    c.is_bad_saved.ensures c.if-is_bad_saved.false c.if-wrong-2.false c.lr_place.ensures.place c.unwrap.ensures
    c.get_word-link.ensures c.leave.ensures
