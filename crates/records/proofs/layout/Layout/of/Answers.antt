-- The upper half of the first word is the kind.
use mathlib.Core.Path.{◌≡◌}
use mathlib.Core.Bool.{not}
use mathlib.Core.List.{List}
use Prim.Native.Nat.{ℕ, ◌/◌, ◌≤◌}
use native.Mathlib.Omega.{arith}
use borrow.Author.Tests.{le-leb, eq-eqb, ne_eqb}
use lib.ListN.{length}
use Rattle.state.specs.Choice.{◌is◌}
use Rattle.words.specs.Word.{half, spelt, Bytes}
use Rattle.records.specs.Layout.{head_size, kind_at, new_layout, is_old}
use Rattle.records.proofs.Begun.{old_short}
use Rattle.records.proofs.layout.Layout.of.Goals as goal

kind_is : (r : List ℕ) → Bytes r → spelt r 0 / 65536 ≡ half r kind_at
unfolding half spelt
kind_is r by = omega (arith, by 0, by 1)

whole : (r : List ℕ) → Bytes r → head_size ≤ length r → {w : ℕ} → w ≡ spelt r 0
    → not (w / 65536 is new_layout.start_kind) ≡ is_old r
unfolding is_old
whole r by l e = rw (le-leb head_size (length r) l, e, kind_is r by)

pub returns-then-trace-lt-HEAD_SIZE : goal.returns-then-trace-lt-HEAD_SIZE
returns-then-trace-lt-HEAD_SIZE c = old_short _ c.if-trace-lt-HEAD_SIZE.true

pub returns-then-word_at-eq-START_KIND : goal.returns-then-word_at-eq-START_KIND
returns-then-word_at-eq-START_KIND c =
    let e = whole c.args.trace.now (λ i. (c.type_inv.trace i).fits) c.if-trace-lt-HEAD_SIZE.false c.word_at.ensures in
    rw (← e, eq-eqb _ _ c.if-word_at-eq-START_KIND.true)

pub returns : goal.returns
returns c =
    let e = whole c.args.trace.now (λ i. (c.type_inv.trace i).fits) c.if-trace-lt-HEAD_SIZE.false c.word_at.ensures in
    rw (← e, ne_eqb _ _ c.if-word_at-eq-START_KIND.false)
