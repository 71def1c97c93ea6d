-- A wrong Step has a part that differs: if all its words were those that the rules give, its answer and its block after
-- would be, and the Step would be right.
use mathlib.Core.Path.{◌≡◌, refl, sym, ◌∙◌}
use mathlib.Core.Bool.{Bool, true, false}
use mathlib.Core.Logic.{◌⊎◌, inl, inr, ⊎_elim}
use mathlib.Core.List.{List}
use Prim.Native.Nat.{ℕ, ◌+◌, ◌*◌, ◌/◌}
use native.Mathlib.Omega.{arith}
use lib.ListN.{length, take, drop, length-take, length-drop}
use lib.Dec.{eqb, leb}
use Rattle.words.specs.Word.{half, Bytes}
use Rattle.words.proofs.SameWords.{same_words}
use Rattle.words.proofs.Spell.{bytes_drop, bytes_take}
use Rattle.rules.specs.declared.event.Event.{Event}
use Rattle.records.specs.Layout.{Layout, Lawful, head_size, step_size, length_at, kind_at, block_after_at}
use Rattle.records.specs.Report.{unless, ◌else◌, head_number, step_number, event_of, SHORT, BAD_RECORD, WRONG_STEP}
use Rattle.records.specs.Judged.{Shows}
use Rattle.records.proofs.Faults.{zero_or_not, else_first, head_whole}
use Rattle.records.proofs.Judging.{judged_right}
use Rattle.explain.specs.Explain.{NUMBER_PART, VALUE_PART, BLOCK_PART, parts, word_found, word_due}
use Rattle.explain.proofs.Differing.{Alike, First, first, part_block}

-- a head is never WRONG-STEP, so that of a wrong Step is right
head_other : (len kind : ℕ) (r : List ℕ) → head_number len kind r ≡ WRONG_STEP → ⊥
unfolding head_number
head_other len kind r =
    go (leb head_size (length r)) (eqb (half r length_at) len) (eqb (half r kind_at) kind) (leb len (length r))
  where
    go : (a b c d : Bool)
        → (unless a SHORT else unless b BAD_RECORD else unless c BAD_RECORD else unless d SHORT) ≡ WRONG_STEP → ⊥
    go false b c d e = omega arith
    go true false c d e = omega arith
    go true true false d e = omega arith
    go true true true false e = omega arith
    go true true true true e = omega arith

module _ (L : Layout) (LL : Lawful L) (words : 4 * (L.size / 4) ≡ L.size) where
  module _ (b r : List ℕ) (size : length b ≡ L.size) (bb : Bytes b) (by : Bytes r) (wrong : step_number L b r ≡ WRONG_STEP) where
    right_head : head_number (step_size L) L.step_kind r ≡ 0
    unfolding step_number
    right_head =
        ⊎_elim (λ z. z)
        (λ n. absurd (head_other (step_size L) L.step_kind r (sym (else_first _ _ n) ∙ wrong)))
        (zero_or_not (head_number (step_size L) L.step_kind r))

    -- words that all agree show what the rules give
    alike_shows : Alike (word_found L r) (word_due L b r) NUMBER_PART (NUMBER_PART + parts L)
        → Shows L r (L.answer b (event_of r)) (L.after b (event_of r))
    alike_shows a =
        let e : Event = event_of r in
        let c : List ℕ = take L.size (drop block_after_at r) in
        let long = (head_whole (step_size L) L.step_kind r right_head).3 in
        let shown : length c ≡ 4 * (L.size / 4) =
        omega (arith, length-take L.size (drop block_after_at r), length-drop block_after_at r) in
        record {
          number = a NUMBER_PART (omega arith) (omega arith);
          value = a VALUE_PART (omega arith) (omega arith);
          block = same_words (L.size / 4) c (L.after b e) shown (LL.length_after b e size ∙ sym words)
              (bytes_take L.size (drop block_after_at r) (bytes_drop block_after_at r by))
              (LL.bytes_after b e size bb)
              (λ p l.
              sym (part_block _ c p) ∙ a (BLOCK_PART + p) (omega arith) (omega arith)
              ∙ part_block (L.answer b e) (L.after b e) p);
        }

    -- so some part differs
    pub wrong_differs : First (word_found L r) (word_due L b r) (parts L) NUMBER_PART
    wrong_differs = go (first (word_found L r) (word_due L b r) (parts L) NUMBER_PART)
      where
        go : Alike (word_found L r) (word_due L b r) NUMBER_PART (NUMBER_PART + parts L)
            ⊎ First (word_found L r) (word_due L b r) (parts L) NUMBER_PART
            → First (word_found L r) (word_due L b r) (parts L) NUMBER_PART
        go (inr w) = w
        go (inl a) =
            let j = judged_right L LL r b size by bb right_head (L.after b (event_of r)) (alike_shows a) refl in
            absurd (let z : 0 ≡ WRONG_STEP = j.number ∙ wrong in omega arith)
