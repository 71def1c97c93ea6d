-- What an explanation says is read off its definition, but for the part that differs, which a wrong Step has; and what it
-- says determines it, since of two first differences neither comes before the other.
use mathlib.Core.Path.{◌≡◌, refl, sym, ap, ◌∙◌}
use mathlib.Core.Bool.{Bool, true, false}
use mathlib.Core.List.{List}
use Prim.Native.Nat.{ℕ, ◌*◌, ◌/◌, ◌<◌}
use native.Mathlib.Omega.{arith}
use lib.ListN.{length, drop}
use lib.Dec.{eqb}
use borrow.Author.Tests.{eq-eqb, ne_eqb, eqb-true, eqb-false}
use Rattle.words.specs.Word.{Bytes}
use Rattle.words.proofs.Spell.{bytes_drop}
use Rattle.records.specs.declared.report.Report.{Report}
use Rattle.records.specs.Layout.{Layout, Lawful}
use Rattle.records.specs.Report.{report, WRONG_STEP}
use Rattle.records.proofs.Records.{length_run, bytes_run}
use Rattle.explain.specs.declared.Explanation.{Explanation}
use Rattle.explain.specs.Explain.{NUMBER_PART, parts, none, word_found, word_due, step_difference, block_before, wrong_part, explanation}
use Rattle.explain.specs.Claims.{Differs, Nothing, Explains, found_at, due_at}
use Rattle.explain.proofs.Before.{WrongAt, wrong_at, before_run, wrong_step}
use Rattle.explain.proofs.Differing.{between, differing_at}
use Rattle.explain.proofs.Wrong.{wrong_differs}

-- ---- any lawful layout whose blocks are whole words

module _ (L : Layout) (LL : Lawful L) (words : 4 * (L.size / 4) ≡ L.size) where
  module _ (s : List ℕ) where
    -- for any other number there is nothing to explain
    other_nothing : ((report L s).number ≡ WRONG_STEP → ⊥) → Nothing L (explanation L s)
    unfolding explanation
    other_nothing n =
        let d : wrong_part L s (report L s) ≡ none = simp (ne_eqb (report L s).number WRONG_STEP n) in
        rw d (record { part = refl; found = refl; due = refl })

    -- a wrong Step has a first part that differs
    first_difference : Bytes s → (report L s).number ≡ WRONG_STEP → Differs L s (explanation L s)
    unfolding explanation step_difference
    first_difference by e =
        let v : Report = report L s in
        let w : WrongAt L LL s v = wrong_at L LL s by e in
        let b : List ℕ = block_before L v.steps s in
        let r : List ℕ = drop v.place s in
        let is = before_run L LL s v w in
        let p = w.begun in
        let size = ap length is ∙ length_run L LL p.events p.start p.size in
        let bytes : Bytes b = rw is (bytes_run L LL p.events p.start p.size p.bytes) in
        let at = wrong_differs L LL words b r size bytes (bytes_drop v.place s by) (wrong_step L LL s v w) in
        let d : wrong_part L s v ≡ between (word_found L r) (word_due L b r) at.at =
        simp (eq-eqb v.number WRONG_STEP e)
        (differing_at (word_found L r) (word_due L b r) (parts L) NUMBER_PART at.at at.from at.to at.before
        at.differ) in
        rw d
        (record {
          from = at.from;
          to = omega (arith, at.to);
          found = refl;
          due = refl;
          differ = at.differ;
          before = at.before;
        })

    pub explains : Bytes s → Explains L s (explanation L s)
    unfolding explanation
    explains by =
        record { number = refl; place = refl; steps = refl; wrong = first_difference by; other = other_nothing }

    -- ---- and nothing else explains a string

    module _ (x y : Explanation) (p : Explains L s x) (q : Explains L s y) where
      place_once : x.place ≡ y.place
      place_once = p.place ∙ sym q.place

      steps_once : x.steps ≡ y.steps
      steps_once = p.steps ∙ sym q.steps

      number_once : x.number ≡ y.number
      number_once = p.number ∙ sym q.number

      -- the words found and due are the same for both
      found_once : (part : ℕ) → found_at L s x part ≡ found_at L s y part
      found_once part = ap (λ (at : ℕ). word_found L (drop at s) part) place_once

      due_once : (part : ℕ) → due_at L s x part ≡ due_at L s y part
      due_once part = λ i. word_due L (block_before L (steps_once i) s) (drop (place_once i) s) part

  -- of two first differences the one is not before the other
  not_before : (s : List ℕ) (x y : Explanation) → Explains L s x → Explains L s y → Differs L s x → Differs L s y
      → x.part < y.part
      → ⊥
  not_before s x y p q d e l =
      d.differ
      (d.found ∙ found_once s x y p q x.part ∙ e.before x.part d.from l ∙ sym (due_once s x y p q x.part)
      ∙ sym d.due)

  part_once : (s : List ℕ) (x y : Explanation) → Explains L s x → Explains L s y → Differs L s x → Differs L s y
      → x.part ≡ y.part
  part_once s x y p q d e =
      let l = not_before s x y p q d e in
      let r = not_before s y x q p e d in
      go (eqb x.part y.part) refl l r
    where
      go : (t : Bool) → eqb x.part y.part ≡ t → (x.part < y.part → ⊥) → (y.part < x.part → ⊥)
          → x.part ≡ y.part
      go true w l r = eqb-true x.part y.part w
      go false w l r = absurd (let n = eqb-false x.part y.part w in r (omega (arith, l)))

  pub explains_once : (s : List ℕ) (x y : Explanation) → Explains L s x → Explains L s y → x ≡ y
  explains_once s x y p q = go (eqb x.number WRONG_STEP) refl
    where
      go : (t : Bool) → eqb x.number WRONG_STEP ≡ t → x ≡ y
      go true w =
          let n = eqb-true x.number WRONG_STEP w in
          let d = p.wrong n in
          let e = q.wrong (sym (number_once s x y p q) ∙ n) in
          let part = part_once s x y p q d e in
          let found = d.found ∙ found_once s x y p q x.part ∙ ap (found_at L s y) part ∙ sym e.found in
          let due = d.due ∙ due_once s x y p q x.part ∙ ap (due_at L s y) part ∙ sym e.due in
          λ i. record {
            number = number_once s x y p q i;
            place = place_once s x y p q i;
            steps = steps_once s x y p q i;
            part = part i;
            found = found i;
            due = due i;
          }
      go false w =
          let n = eqb-false x.number WRONG_STEP w in
          let d = p.other n in
          let e = q.other (λ z. n (number_once s x y p q ∙ z)) in
          λ i. record {
            number = number_once s x y p q i;
            place = place_once s x y p q i;
            steps = steps_once s x y p q i;
            part = (d.part ∙ sym e.part) i;
            found = (d.found ∙ sym e.found) i;
            due = (d.due ∙ sym e.due) i;
          }
