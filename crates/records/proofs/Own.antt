-- A record is judged by its own bytes. What can be wrong with it is that it is cut, that its head is not the one due, or
-- its own fault; four bytes decide the second and the whole record the third, whatever stands behind them.
use mathlib.Core.Path.{◌≡◌, refl, sym, ◌∙◌}
use mathlib.Core.Bool.{Bool, true, false}
use mathlib.Core.Logic.{◌⊎◌, inl, inr}
use mathlib.Core.List.{List, ◌++◌}
use Prim.Native.Nat.{ℕ, ◌<◌, ◌≤◌}
use native.Mathlib.Omega.{arith}
use lib.ListN.{length, take, length-append}
use lib.Seq.{take-append-le}
use lib.Dec.{eqb, leb}
use borrow.Author.Tests.{le-leb, leb-true, leb-false}
use Rattle.words.specs.Word.{half, spelt}
use Rattle.words.proofs.Spell.{half_front, spelt_front}
use Rattle.records.specs.Layout.{Layout, start_size, step_size, end_size, end_kind, most_steps}
use Rattle.records.specs.Layout.{head_size, length_at, kind_at, count_at, code_at, a_at, b_at, number_at}
use Rattle.records.specs.Published.{step_record}
use Rattle.records.specs.Report.{unless, ◌else◌, same_bytes, head_number, start_number, step_number, end_number, event_of, SHORT}
use Rattle.records.specs.Report.{BAD_RECORD, BAD_COUNT, WRONG_STEP}
use Rattle.records.proofs.Faults.{zero_or_not, else_first, else_second, head_whole}

-- ---- what is wrong with a record of this length and kind, whose own fault is f

pub data Fault (len kind f : ℕ) (r : List ℕ) : ℕ → Type 0 where
  cut : length r < len → Fault len kind f r SHORT
  bad : head_size ≤ length r → head_number len kind r ≡ BAD_RECORD → Fault len kind f r BAD_RECORD
  own : len ≤ length r → Fault len kind f r f

module _ (len kind f : ℕ) (r : List ℕ) (long : head_size ≤ len) where
  head_fault : (a b c d : Bool) → leb head_size (length r) ≡ a → leb len (length r) ≡ d → (n : ℕ)
      → n ≡ (unless a SHORT else unless b BAD_RECORD else unless c BAD_RECORD else unless d SHORT) → (n ≡ 0 → ⊥)
      → head_number len kind r ≡ n → Fault len kind f r n
  head_fault false b c d p q n e z h = rw e (cut (omega (arith, leb-false 4 (length r) p)))
  head_fault true false c d p q n e z h = rw e (bad (leb-true 4 (length r) p) (h ∙ e))
  head_fault true true false d p q n e z h = rw e (bad (leb-true 4 (length r) p) (h ∙ e))
  head_fault true true true false p q n e z h = rw e (cut (leb-false len (length r) q))
  head_fault true true true true p q n e z h = absurd (z e)

  -- the number of a record that is judged by its head and then by a test of its own
  pub fault_of_lem : (t : Bool) (n : ℕ) → n ≡ (head_number len kind r else unless t f) → (n ≡ 0 → ⊥) → Fault len kind f r n
  unfolding head_number
  fault_of_lem t n e z = go (zero_or_not (head_number len kind r)) t e
    where
      go : (head_number len kind r ≡ 0) ⊎ (head_number len kind r ≡ 0 → ⊥) → (t : Bool)
          → n ≡ (head_number len kind r else unless t f)
          → Fault len kind f r n
      go (inl p) true e = absurd (z (e ∙ else_second (head_number len kind r) 0 p))
      go (inl p) false e = rw (e ∙ else_second (head_number len kind r) f p) (own (head_whole len kind r p).3)
      go (inr p) t e =
          let q : n ≡ head_number len kind r = e ∙ else_first (head_number len kind r) (unless t f) p in
          head_fault (leb head_size (length r)) (eqb (half r length_at) len) (eqb (half r kind_at) kind) (leb len (length r)) refl refl n q
          z (sym q)

-- Start, Step and End are such records
module _ (L : Layout) where
  pub start_fault : (r : List ℕ) (n : ℕ) → n ≡ start_number L r → (n ≡ 0 → ⊥)
      → Fault (start_size L) L.start_kind BAD_COUNT r n
  unfolding start_number
  start_fault r n e z =
      fault_of_lem (start_size L) L.start_kind BAD_COUNT r (omega arith) (leb (spelt r count_at) most_steps) n e z

  pub step_fault : (b r : List ℕ) (n : ℕ) → n ≡ step_number L b r → (n ≡ 0 → ⊥)
      → Fault (step_size L) L.step_kind WRONG_STEP r n
  unfolding step_number
  step_fault b r n e z =
      fault_of_lem (step_size L) L.step_kind WRONG_STEP r (omega arith)
      (same_bytes (take (step_size L) r) (step_record L b (event_of r))) n e z

pub end_fault : (k : ℕ) (r : List ℕ) (n : ℕ) → n ≡ end_number k r → (n ≡ 0 → ⊥) → Fault end_size end_kind BAD_COUNT r n
unfolding end_number
end_fault k r n e z = fault_of_lem end_size end_kind BAD_COUNT r (omega arith) (eqb (spelt r count_at) k) n e z

-- ---- the bytes behind do not matter

module _ (r t : List ℕ) where
  more : length r ≤ length (r ++ t)
  more = omega (arith, length-append r t)

  module _ (len kind : ℕ) where
    pub head_own : head_size ≤ len → len ≤ length r → head_number len kind (r ++ t) ≡ head_number len kind r
    unfolding head_number
    head_own h k =
        let a : leb head_size (length (r ++ t)) ≡ leb head_size (length r) =
        le-leb head_size (length (r ++ t)) (omega (arith, more)) ∙ sym (le-leb head_size (length r) (omega arith)) in
        let d : leb len (length (r ++ t)) ≡ leb len (length r) =
        le-leb len (length (r ++ t)) (omega (arith, more)) ∙ sym (le-leb len (length r) k) in
        let b = half_front r t length_at (omega arith) in
        let c = half_front r t kind_at (omega arith) in
        λ j. unless (a j) SHORT else unless (eqb (b j) len) BAD_RECORD else unless (eqb (c j) kind) BAD_RECORD else
        unless (d j) SHORT

  -- four bytes are enough for 9
  pub bad_own : (len kind : ℕ) (u : List ℕ) → head_size ≤ length r → head_number len kind (r ++ u) ≡ BAD_RECORD
      → head_number len kind (r ++ t) ≡ BAD_RECORD
  unfolding head_number
  bad_own len kind u h e =
      let a = le-leb head_size (length (r ++ t)) (omega (arith, more)) in
      let b = half_front r t length_at (omega arith) ∙ sym (half_front r u length_at (omega arith)) in
      let c = half_front r t kind_at (omega arith) ∙ sym (half_front r u kind_at (omega arith)) in
      let d = leb len (length (r ++ t)) in
      (λ j. unless (a j) SHORT else unless (eqb (b j) len) BAD_RECORD else unless (eqb (c j) kind) BAD_RECORD else
      unless d SHORT)
      ∙ go (leb head_size (length (r ++ u))) (eqb (half (r ++ u) length_at) len) (eqb (half (r ++ u) kind_at) kind)
      (leb len (length (r ++ u))) d e
    where
      go : (a b c d e : Bool)
          → (unless a SHORT else unless b BAD_RECORD else unless c BAD_RECORD else unless d SHORT) ≡ BAD_RECORD
          → (unless true SHORT else unless b BAD_RECORD else unless c BAD_RECORD else unless e SHORT) ≡ BAD_RECORD
      go false b c d e q = absurd (omega arith)
      go true false c d e q = refl
      go true true false d e q = refl
      go true true true true e q = absurd (omega arith)
      go true true true false e q = absurd (omega arith)

  pub start_own : (L : Layout) → start_size L ≤ length r → start_number L (r ++ t) ≡ start_number L r
  unfolding start_number
  start_own L h =
      let head = head_own (start_size L) L.start_kind (omega arith) h in
      let count = spelt_front r t count_at (omega arith) in
      λ j. head j else unless (leb (count j) most_steps) BAD_COUNT

  pub event_own : number_at ≤ length r → event_of (r ++ t) ≡ event_of r
  event_own h =
      let code = spelt_front r t code_at (omega arith) in
      let a = spelt_front r t a_at (omega arith) in
      let b = spelt_front r t b_at (omega arith) in
      λ j. record { code = code j; a = a j; b = b j }

  pub step_own : (L : Layout) (b : List ℕ) → step_size L ≤ length r → step_number L b (r ++ t) ≡ step_number L b r
  unfolding step_number
  step_own L b h =
      let head = head_own (step_size L) L.step_kind (omega arith) h in
      let event = event_own (omega arith) in
      let bytes = take-append-le (step_size L) r t h in
      λ j. head j else unless (same_bytes (bytes j) (step_record L b (event j))) WRONG_STEP

  pub end_own : (k : ℕ) → end_size ≤ length r → end_number k (r ++ t) ≡ end_number k r
  unfolding end_number
  end_own k h =
      let head = head_own end_size end_kind (omega arith) h in
      let count = spelt_front r t count_at h in
      λ j. head j else unless (eqb (count j) k) BAD_COUNT
