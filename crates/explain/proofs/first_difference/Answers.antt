-- The two words of the answer are compared first, and then the words of the block in their order; the words passed agree.
use mathlib.Core.Path.{◌≡◌, sym, ap, ◌∙◌}
use Prim.Native.Nat.{◌+◌, ◌/◌}
use native.Mathlib.Omega.{arith}
use Rattle.words.specs.Word.{word}
use Rattle.records.specs.Which.{its}
use Rattle.explain.specs.Explain.{NUMBER_PART, BLOCK_PART, parts, part_word}
use Rattle.explain.proofs.Differing.{differing-none, parts_alike, block_differs}
use Rattle.explain.proofs.first_difference.Goals as goal

pub returns-then-found-word : goal.returns-then-found-word
returns-then-found-word c =
    let x = c.args in
    let p = c.loop-p.p in
    let found : c.get_word-found.result ≡ word x.after.now p = c.get_word-found.ensures in
    let due : c.get_word-word.result ≡ word x.block.now p = c.get_word-word.ensures in
    -- as many words are compared as the layout has
    let places : 2 + c.block_size-p-end.result / 4 ≡ parts (its x.layout) = ap (λ n. 2 + n / 4) c.block_size-p-end.ensures in
    (λ i. record { part = BLOCK_PART + p; found = found i; due = due i })
    ∙ sym
    (block_differs x.shown x.due x.after.now x.block.now c.if-shown-due.false c.if-shown-due-2.false (parts (its x.layout)) p
    (omega (arith, places)) c.loop-p.invariant (λ e. c.if-found-word.true (found ∙ e ∙ sym due)))

pub returns : goal.returns
returns c =
    let x = c.args in
    let places : 2 + c.block_size-p-end.result / 4 ≡ parts (its x.layout) = ap (λ n. 2 + n / 4) c.block_size-p-end.ensures in
    let alike = parts_alike x.shown x.due x.after.now x.block.now c.if-shown-due.false c.if-shown-due-2.false c.loop-p.p
    c.loop-p.invariant in
    sym
    (differing-none (part_word x.shown x.after.now) (part_word x.due x.block.now) (parts (its x.layout)) NUMBER_PART
    (λ j k l. alike j k (omega (arith, places))))
