-- What bytes do to a session. Up to the next place where it is looked at they are only held; a record that is there whole is
-- judged by its own bytes, however they came.
use Rattle.std.specs.Prelude.{if◌then◌else◌}
use mathlib.Core.Path.{◌≡◌, refl, sym, ap, ◌∙◌}
use mathlib.Core.Bool.{Bool, true, false, ◌&&◌}
use mathlib.Core.Logic.{◌⊎◌, inl, inr}
use mathlib.Core.List.{List, [], ◌∷◌, ◌++◌, append_assoc, append-nil}
use Prim.Native.Nat.{ℕ, zero, suc, ◌+◌, ◌-◌, ◌%◌, ◌<◌, ◌≤◌, ◌^◌}
use native.Mathlib.Omega.{arith}
use native.Mathlib.Nat.{mul-zero}
use lib.ListN.{length, take, drop, set, length-append, length-drop, take-append-drop, drop_of_length-le}
use lib.Seq.{sets, sets-eq, length-sets, length-take-le, take_all, take-length, take-append-le, drop-append-le, drop-drop}
use lib.Dec.{eqb, leb, ltb}
use borrow.Author.Tests.{lt-ltb, le-ltb, eq-eqb, ne_eqb, leb-true, leb-false, ltb-true, ltb-false, eqb-true, eqb-false}
use Rattle.words.specs.Word.{half}
use Rattle.words.proofs.Spell.{half_front, spelt_front}
use Rattle.state.specs.Choice.{◌is◌}
use Rattle.records.specs.declared.session.Progress.{Progress}
use Rattle.records.specs.declared.session.Session.{Session}
use Rattle.records.specs.Layout.{Layout, head_size, start_size, step_size, end_size, end_kind, length_at, kind_at, count_at, start_block_at}
use Rattle.records.specs.Report.{◌else◌, head_number, start_number, step_number, end_number, event_of, BAD_RECORD, TRAILING}
use Rattle.records.specs.Claims.{start_of}
use Rattle.records.specs.Session.{AT_START, session, is_over, is_live, holding, refusing, due, due_size, due_kind}
use Rattle.records.specs.Session.{due_number, due_stage, due_count, due_steps, due_block, advancing, nothing_held}
use Rattle.records.specs.Session.{faulty, unless_faulty, advanced, judged, looked, grown, fed_byte, fed}
use Rattle.records.specs.Judged.{Run, Judged, block_after, number_behind, Went}
use Rattle.records.specs.Fed.{Due, Takes, concluded}
use Rattle.records.proofs.Faults.{differ, zero_or_not, else_first, below, head_right, head_bad}
use Rattle.records.proofs.Own.{start_own, step_own, event_own, end_own, bad_own}

-- ---- the record due

module _ {A : Type 0} (p : Progress) (x y z : A) where
  pub due_start : p.stage ≡ AT_START → due p x y z ≡ x
  due_start h = simp (eq-eqb p.stage AT_START h)

  pub due_step : (p.stage ≡ AT_START → ⊥) → p.steps < p.count → due p x y z ≡ y
  due_step h l = simp (ne_eqb p.stage AT_START h, lt-ltb p.steps p.count l)

  pub due_end : (p.stage ≡ AT_START → ⊥) → p.count ≤ p.steps → due p x y z ≡ z
  due_end h l = simp (ne_eqb p.stage AT_START h, le-ltb p.steps p.count l)

-- what holds of a Start, a Step and an End holds of the record due
pub due_all : {A : Type 0} (P : A → Type 0) (p : Progress) (x y z : A) → P x → P y → P z → P (due p x y z)
due_all P p x y z f g h = go (p.stage is AT_START) (ltb p.steps p.count)
  where
    go : (t u : Bool) → P (if t then x else if u then y else z)
    go true u = f
    go false true = g
    go false false = h

-- ---- whether a session is live

pub dead : (p : Progress) → (p.fault ≡ 0 → ⊥) → is_live p ≡ false
dead p h = simp (ne_eqb p.fault 0 h) (go (p.closed is 0))
  where
    go : (t : Bool) → (t && false) ≡ false
    go true = refl
    go false = refl

pub dead_closed : (p : Progress) → (p.closed ≡ 0 → ⊥) → is_live p ≡ false
dead_closed p h = simp (ne_eqb p.closed 0 h)

pub alive : (p : Progress) → p.closed ≡ 0 → p.fault ≡ 0 → is_live p ≡ true
alive p h k = simp (eq-eqb p.closed 0 h, eq-eqb p.fault 0 k)

-- behind a Start n stays
pub count_stays : (p : Progress) (r : List ℕ) → (p.stage ≡ AT_START → ⊥) → p.count ≡ due_count p r
count_stays p r h = go (ltb p.steps p.count) ∙ sym (simp (ne_eqb p.stage AT_START h))
  where
    go : (t : Bool) → p.count ≡ (if t then p.count else p.count)
    go true = refl
    go false = refl

-- the session that the next record is due in, part by part
pub advancing_is : (L : Layout) (p : Progress) (stage count steps place : ℕ) → stage ≡ due_stage L p → steps ≡ due_steps p
    → place ≡ (p.place + due_size L p) % 2 ^ 32
    → record {
      stage = stage;
      count = count;
      steps = steps;
      place = place;
      held = 0;
      fault = p.fault;
      closed = p.closed;
    }
    ≡ advancing L p count
advancing_is L p stage count steps place a b c =
    λ i. record {
      stage = a i;
      count = count;
      steps = b i;
      place = c i;
      held = 0;
      fault = p.fault;
      closed = p.closed;
    }

-- a Start's block is in its own bytes
start_front : (L : Layout) (x y : List ℕ) → start_size L ≤ length x → start_of L (x ++ y) ≡ start_of L x
start_front L x y h =
    ap (take L.size) (drop-append-le start_block_at x y (omega arith))
    ∙ take-append-le L.size (drop start_block_at x) y (omega (arith, length-drop start_block_at x))

pub both : (t u : Bool) → (t && u) ≡ true → (t ≡ true) × (u ≡ true)
both true u e = (refl, e)
both false u e = differ e

pub either : (n : ℕ) → (0 < n) ⊎ (n ≤ 0)
either zero = inr (omega arith)
either (suc n) = inl (omega arith)

-- the less of two numbers
pub least_of : (a b m : ℕ) → m ≡ (if leb a b then a else b) → (m ≤ a) × (m ≤ b) × (0 < a → 0 < b → 0 < m)
least_of a b m e = go (leb a b) refl e
  where
    go : (t : Bool) → leb a b ≡ t → m ≡ (if t then a else b) → (m ≤ a) × (m ≤ b) × (0 < a → 0 < b → 0 < m)
    go true l e = (omega arith, omega (arith, leb-true a b l), λ h k. omega arith)
    go false l e = (omega (arith, leb-false a b l), omega arith, λ h k. omega arith)

-- the bytes r are copied to the part of d that begins at this place
pub put_over : (d r c : List ℕ) (at : ℕ) → at + length r ≤ length d
    → c ≡ take (length r) r ++ drop (length r) (take (length d - at) (drop at d))
    → take at d ++ (c ++ drop (length d - at) (drop at d)) ≡ sets d at r
put_over d r c at h e =
    let long = length-drop at d in
    let past : drop (length d - at) (drop at d) ≡ [] = drop_of_length-le (drop at d) {i = length d - at} (omega (arith, long)) in
    let all : take (length d - at) (drop at d) ≡ drop at d = take_all (length d - at) (drop at d) (omega (arith, long)) in
    let f : c ≡ r ++ drop (at + length r) d =
    e ∙ (λ i. take-length r i ++ drop (length r) (all i)) ∙ ap (λ (l : List ℕ). r ++ l) (drop-drop (length r) at d) in
    (λ i. take at d ++ (f i ++ past i))
    ∙ ap (λ (l : List ℕ). take at d ++ l) (append-nil (r ++ drop (at + length r) d))
    ∙ sym (append_assoc (take at d) r (drop (at + length r) d))
    ∙ sym (sets-eq r d at h)

-- ---- a record judged

-- one Step of one
pub went_once : (L : Layout) (r b : List ℕ) (v : Run) (c : List ℕ) → Went L r 1 b v c → Judged L r b v.fault c
unfolding block_after
went_once L r b v c went = go (zero_or_not v.fault)
  where
    first : number_behind L 0 b r ≡ step_number L b r
    first = ap (λ (m : ℕ). step_number L b (drop m r)) (mul-zero (step_size L))

    go : (v.fault ≡ 0) ⊎ (v.fault ≡ 0 → ⊥) → Judged L r b v.fault c
    go (inl z) =
        let one : v.right ≡ 1 = (went.all z).0 in
        record {
          number = z ∙ sym (went.right 0 (omega arith)) ∙ first;
          block = λ _. (went.all z).1 ∙ ap (λ (m : ℕ). block_after L m b r) one
              ∙ ap (λ (m : ℕ). L.after b (event_of (drop m r))) (mul-zero (step_size L));
        }
    go (inr z) =
        let w = went.wrong z in
        let none : v.right ≡ 0 = omega (arith, w.0) in
        record {
          number = w.1 ∙ ap (λ (m : ℕ). number_behind L m b r) none ∙ first;
          block = λ y. absurd (z y);
        }

module _ (L : Layout) (p : Progress) (r b : List ℕ) (n : ℕ) where
  pub due_of_start : (c : List ℕ) → p.stage ≡ AT_START → n ≡ start_number L r → (n ≡ 0 → c ≡ start_of L r) → Due L p r b n c
  due_of_start c h e f =
      record { number = e ∙ sym (due_start p _ _ _ h); block = λ z. f z ∙ sym (due_start p _ _ _ h) }

  pub due_of_step : (c : List ℕ) → (p.stage ≡ AT_START → ⊥) → p.steps < p.count → Judged L r b n c → Due L p r b n c
  due_of_step c h l j =
      record { number = j.number ∙ sym (due_step p _ _ _ h l); block = λ z. j.block z ∙ sym (due_step p _ _ _ h l) }

  pub due_of_end : (p.stage ≡ AT_START → ⊥) → p.count ≤ p.steps → n ≡ end_number p.steps r → Due L p r b n b
  due_of_end h l e = record { number = e ∙ sym (due_end p _ _ _ h l); block = λ _. sym (due_end p _ _ _ h l) }

module _ (L : Layout) where
  pub concluded-faulty : (s : Session) (n count : ℕ) (b : List ℕ) → (n ≡ 0 → ⊥)
      → faulty L s n ≡ concluded L n s.progress count b
  concluded-faulty s zero count b h = absurd (h refl)
  concluded-faulty s (suc n) count b h = refl

  pub concluded_right : (p q : Progress) (n count : ℕ) (b : List ℕ) → n ≡ 0 → q ≡ advancing L p count
      → session q b (nothing_held L) ≡ concluded L n p count b
  concluded_right p q zero count b h e = ap (λ (t : Progress). session t b (nothing_held L)) e
  concluded_right p q (suc n) count b h e = absurd (omega arith)

  -- what is concluded of the record due is what the definition says
  pub concluded-judged : (p : Progress) (r b c u : List ℕ) (n count : ℕ) → Due L p r b n c → count ≡ due_count p r
      → concluded L n p count c ≡ judged L (session p b u) r
  unfolding judged
  concluded-judged p r b c u n count d e = go n d.number d.block ∙ ap (λ (m : ℕ). unless_faulty L m s (advanced L s r)) d.number
    where
      s : Session
      s = session p b u

      go : (m : ℕ) → m ≡ due_number L p b r → (m ≡ 0 → c ≡ due_block L p b r)
          → concluded L m p count c ≡ unless_faulty L m s (advanced L s r)
      go zero q f = λ i. session (advancing L p (e i)) (f refl i) (nothing_held L)
      go (suc m) q f = refl

  -- ---- where a session is looked at

  module _ (p : Progress) (b u : List ℕ) where
    abbrev s₀ : Session
    s₀ = session p b u

    pub looked_bad : (n : ℕ) → p.held ≡ head_size → n ≡ head_number (due_size L p) (due_kind L p) u
        → (n ≡ 0 → ⊥) → faulty L s₀ n ≡ looked L s₀
    unfolding looked
    looked_bad n h e z = sym (simp (eq-eqb p.held head_size h) (go n e z))
      where
        go : (n : ℕ) → n ≡ head_number (due_size L p) (due_kind L p) u → (n ≡ 0 → ⊥)
            → unless_faulty L (head_number (due_size L p) (due_kind L p) u) s₀ s₀ ≡ faulty L s₀ n
        go zero e z = absurd (z refl)
        go (suc n) e z = ap (λ (m : ℕ). unless_faulty L m s₀ s₀) (sym e)

    pub looked_on : p.held ≡ head_size → head_number (due_size L p) (due_kind L p) u ≡ 0 → s₀ ≡ looked L s₀
    unfolding looked
    looked_on h e = sym (simp (eq-eqb p.held head_size h, e))

    pub looked_whole : (p.held ≡ head_size → ⊥) → p.held ≡ due_size L p → judged L s₀ u ≡ looked L s₀
    unfolding looked
    looked_whole h e = sym (simp (ne_eqb p.held head_size h, eq-eqb p.held (due_size L p) e))

    pub looked_not : (p.held ≡ head_size → ⊥) → (p.held ≡ due_size L p → ⊥) → s₀ ≡ looked L s₀
    unfolding looked
    looked_not h e = sym (simp (ne_eqb p.held head_size h, ne_eqb p.held (due_size L p) e))

  pub unless_faulty_lem : (n : ℕ) (s t : Session) → (n ≡ 0 → ⊥) → unless_faulty L n s t ≡ faulty L s n
  unless_faulty_lem zero s t h = absurd (h refl)
  unless_faulty_lem (suc n) s t h = refl

  -- ---- bytes that are held

  -- a record has more than its head, and is no longer than a Step
  pub due_least : (p : Progress) → end_size ≤ due_size L p
  due_least p = due_all (λ n. end_size ≤ n) p _ _ _ (omega arith) (omega arith) (omega arith)

  pub due_most : (p : Progress) → due_size L p ≤ step_size L
  due_most p = due_all (λ n. n ≤ step_size L) p _ _ _ (omega arith) (omega arith) (omega arith)

  pub byte_held : (s : Session) (x : ℕ) → Takes L s.progress → fed_byte L s x ≡ looked L (grown L s (x ∷ []))
  unfolding fed_byte
  byte_held s x t = simp (t.live, t.going, lt-ltb s.progress.held (due_size L s.progress) t.room)

  -- run after run
  pub fed_cut : (s : Session) (x y : List ℕ) → fed L s (x ++ y) ≡ fed L (fed L s x) y
  unfolding fed
  fed_cut s [] y = refl
  fed_cut s (a ∷ x) y = fed_cut (fed_byte L s a) x y

  sets_more : (u : List ℕ) (i : ℕ) (x y : List ℕ) → sets (sets u i x) (i + length x) y ≡ sets u i (x ++ y)
  sets_more u i [] y = let e : i + 0 ≡ i = omega arith in ap (λ (j : ℕ). sets u j y) e
  sets_more u i (a ∷ x) y =
      let e : i + suc (length x) ≡ suc i + length x = omega arith in
      ap (λ (j : ℕ). sets (sets (set u i a) (suc i) x) j y) e ∙ sets_more (set u i a) (suc i) x y

  pub grown_more : (s : Session) (x y : List ℕ) → grown L (grown L s x) y ≡ grown L s (x ++ y)
  grown_more s x y =
      let h : ℕ = s.progress.held in
      let e : h + length x + length y ≡ h + length (x ++ y) = omega (arith, length-append x y) in
      let f = sets_more s.unfinished h x y in
      λ i. session (holding s.progress (e i)) s.block (f i)

  pub grown_none : (s : Session) → grown L s [] ≡ s
  grown_none s =
      let e : s.progress.held + 0 ≡ s.progress.held = omega arith in
      λ i. session (holding s.progress (e i)) s.block s.unfinished

  -- so many bytes of the record due are held when it is next looked at: those of its head, or all
  abbrev pub stop_at : Progress → ℕ
  stop_at p = if ltb p.held head_size then head_size else due_size L p

  pub stop_low : (p : Progress) → p.held < head_size → stop_at p ≡ head_size
  stop_low p h = simp (lt-ltb p.held head_size h)

  pub stop_high : (p : Progress) → head_size ≤ p.held → stop_at p ≡ due_size L p
  stop_high p h = simp (le-ltb p.held head_size h)

  -- one byte more, short of that place: it is only held, and the place stays
  record Next (s : Session) (x : ℕ) : Type 0 where
    pub quiet : looked L (grown L s (x ∷ [])) ≡ grown L s (x ∷ [])
    takes : Takes L (grown L s (x ∷ [])).progress
    stop : stop_at (grown L s (x ∷ [])).progress ≡ stop_at s.progress

  next : (s : Session) (x : ℕ) → Takes L s.progress → s.progress.held + 1 < stop_at s.progress → Next s x
  next s x t less = go (below s.progress.held head_size)
    where
      p : Progress
      p = s.progress

      t' : Session
      t' = grown L s (x ∷ [])

      more : end_size ≤ due_size L p
      more = due_least p

      size : due_size L t'.progress ≡ due_size L p
      size = refl

      go : (p.held < head_size) ⊎ (head_size ≤ p.held) → Next s x
      go (inl l) =
          let e : stop_at p ≡ head_size = stop_low p l in
          record {
            quiet = sym (looked_not t'.progress t'.block t'.unfinished (λ z. omega arith) (λ z. omega (arith, more, size)));
            takes = record { live = t.live; going = t.going; room = omega (arith, more, size) };
            stop = stop_low t'.progress (omega arith) ∙ sym e;
          }
      go (inr l) =
          let e : stop_at p ≡ due_size L p = stop_high p l in
          record {
            quiet = sym (looked_not t'.progress t'.block t'.unfinished (λ z. omega arith) (λ z. omega (arith, more, size)));
            takes = record { live = t.live; going = t.going; room = omega (arith, more, size) };
            stop = stop_high t'.progress (omega arith) ∙ sym e;
          }

  -- a run up to that place is one look
  pub gulp : (r : List ℕ) (s : Session) → Takes L s.progress → 0 < length r
      → s.progress.held + length r ≤ stop_at s.progress
      → fed L s r ≡ looked L (grown L s r)
  unfolding fed
  gulp [] s t z k = absurd (omega arith)
  gulp (x ∷ []) s t z k = byte_held s x t
  gulp (x ∷ y ∷ r) s t z k =
      let n = next s x t (omega arith) in
      ap (λ (u : Session). fed L u (y ∷ r)) (byte_held s x t ∙ n.quiet)
      ∙ gulp (y ∷ r) (grown L s (x ∷ [])) n.takes (omega arith) (omega (arith, n.stop))
      ∙ ap (looked L) (grown_more s (x ∷ []) (y ∷ r))

  -- and short of it nothing but held
  pub quiet : (r : List ℕ) (s : Session) → Takes L s.progress
      → s.progress.held + length r < stop_at s.progress
      → fed L s r ≡ grown L s r
  unfolding fed
  quiet [] s t k = sym (grown_none s)
  quiet (x ∷ r) s t k =
      let n = next s x t (omega arith) in
      ap (λ (u : Session). fed L u r) (byte_held s x t ∙ n.quiet)
      ∙ quiet r (grown L s (x ∷ [])) n.takes (omega (arith, n.stop))
      ∙ grown_more s (x ∷ []) r

  pub fed_nothing : (s : Session) → fed L s [] ≡ s
  unfolding fed
  fed_nothing s = refl

  -- ---- bytes that are not held

  -- what a byte does not change, no run does
  fed_same : (s : Session) → ((x : ℕ) → fed_byte L s x ≡ s) → (r : List ℕ) → fed L s r ≡ s
  unfolding fed
  fed_same s h [] = refl
  fed_same s h (x ∷ r) = ap (λ (t : Session). fed L t r) (h x) ∙ fed_same s h r

  pub fed_dead : (s : Session) → is_live s.progress ≡ false → (r : List ℕ) → fed L s r ≡ s
  unfolding fed_byte
  fed_dead s h = fed_same s (λ x. simp h)

  pub fed_full : (s : Session) → is_live s.progress ≡ true → is_over s.progress ≡ false
      → due_size L s.progress ≤ s.progress.held
      → (r : List ℕ)
      → fed L s r ≡ s
  unfolding fed_byte
  fed_full s h g k = fed_same s (λ x. simp (h, g, le-ltb s.progress.held (due_size L s.progress) k))

  pub fed-faulty : (s : Session) (n : ℕ) → (n ≡ 0 → ⊥) → (r : List ℕ) → fed L (faulty L s n) r ≡ faulty L s n
  fed-faulty s n h r = fed_dead (faulty L s n) (dead (refusing s.progress n) h) r

  -- a byte behind the End
  pub fed_over : (s : Session) → is_live s.progress ≡ true → is_over s.progress ≡ true → (r : List ℕ) → 0 < length r
      → fed L s r ≡ faulty L s TRAILING
  unfolding fed fed_byte
  fed_over s h g [] l = absurd (omega arith)
  fed_over s h g (x ∷ r) l =
      let e : fed_byte L s x ≡ faulty L s TRAILING = simp (h, g) in
      ap (λ (t : Session). fed L t r) e ∙ fed-faulty s TRAILING (λ z. omega arith) r

  -- ---- a record that is there from its first byte on

  -- the record due is judged by its own bytes, whatever else the session holds
  pub judged_own : (s : Session) (x y : List ℕ) → due_size L s.progress ≤ length x → judged L s (x ++ y) ≡ judged L s x
  unfolding judged
  judged_own s x y h = go (s.progress.stage is AT_START) refl (ltb s.progress.steps s.progress.count) refl
    where
      p : Progress
      p = s.progress

      b : List ℕ
      b = s.block

      same : due_number L p b (x ++ y) ≡ due_number L p b x → due_count p (x ++ y) ≡ due_count p x
          → due_block L p b (x ++ y) ≡ due_block L p b x
          → judged L s (x ++ y) ≡ judged L s x
      same e f g = λ i. unless_faulty L (e i) s (session (advancing L p (f i)) (g i) (nothing_held L))

      go : (t : Bool) → (p.stage is AT_START) ≡ t → (u : Bool) → ltb p.steps p.count ≡ u → judged L s (x ++ y) ≡ judged L s x
      go true e u f =
          let z = eqb-true p.stage AT_START e in
          let size : due_size L p ≡ start_size L = due_start p _ _ _ z in
          let whole : start_size L ≤ length x = omega (arith, h, size) in
          same
          (due_start p _ _ _ z ∙ start_own x y L whole ∙ sym (due_start p _ _ _ z))
          (due_start p _ _ _ z ∙ spelt_front x y count_at (omega (arith, whole)) ∙ sym (due_start p _ _ _ z))
          (due_start p _ _ _ z ∙ start_front L x y whole ∙ sym (due_start p _ _ _ z))
      go false e true f =
          let z = eqb-false p.stage AT_START e in
          let l = ltb-true p.steps p.count f in
          let size : due_size L p ≡ step_size L = due_step p _ _ _ z l in
          let whole : step_size L ≤ length x = omega (arith, h, size) in
          same
          (due_step p _ _ _ z l ∙ step_own x y L b whole ∙ sym (due_step p _ _ _ z l))
          (due_step p _ _ _ z l ∙ sym (due_step p _ _ _ z l))
          (due_step p _ _ _ z l ∙ ap (L.after b) (event_own x y (omega (arith, whole))) ∙ sym (due_step p _ _ _ z l))
      go false e false f =
          let z = eqb-false p.stage AT_START e in
          let l = ltb-false p.steps p.count f in
          let size : due_size L p ≡ end_size = due_end p _ _ _ z l in
          let whole : end_size ≤ length x = omega (arith, h, size) in
          same
          (due_end p _ _ _ z l ∙ end_own x y p.steps whole ∙ sym (due_end p _ _ _ z l))
          (due_end p _ _ _ z l ∙ sym (due_end p _ _ _ z l))
          (due_end p _ _ _ z l ∙ sym (due_end p _ _ _ z l))

  -- a fault of its head is the record's
  pub due_fault : (p : Progress) (b r : List ℕ) → (head_number (due_size L p) (due_kind L p) r ≡ 0 → ⊥)
      → due_number L p b r ≡ head_number (due_size L p) (due_kind L p) r
  unfolding start_number step_number end_number
  due_fault p b r = go (p.stage is AT_START) (ltb p.steps p.count)
    where
      number : Bool → Bool → ℕ
      number t u = if t then start_number L r else if u then step_number L b r else end_number p.steps r

      head : Bool → Bool → ℕ
      head t u =
          head_number (if t then start_size L else if u then step_size L else end_size)
          (if t then L.start_kind else if u then L.step_kind else end_kind) r

      go : (t u : Bool) → (head t u ≡ 0 → ⊥) → number t u ≡ head t u
      go true u h = else_first (head_number (start_size L) L.start_kind r) _ h
      go false true h = else_first (head_number (step_size L) L.step_kind r) _ h
      go false false h = else_first (head_number end_size end_kind r) _ h

  -- what is judged wrong has its fault, and what is judged right goes on
  pub judged-faulty : (s : Session) (r : List ℕ) (n : ℕ) → due_number L s.progress s.block r ≡ n → (n ≡ 0 → ⊥)
      → judged L s r ≡ faulty L s n
  unfolding judged
  judged-faulty s r zero e h = absurd (h refl)
  judged-faulty s r (suc n) e h = ap (λ (m : ℕ). unless_faulty L m s (advanced L s r)) e

  pub judged_right : (s : Session) (r : List ℕ) → due_number L s.progress s.block r ≡ 0
      → judged L s r ≡ advanced L s r
  unfolding judged
  judged_right s r e = ap (λ (m : ℕ). unless_faulty L m s (advanced L s r)) e

  -- of the record due no byte is held yet, and these come
  module _ (s : Session) (t : Takes L s.progress) (none : s.progress.held ≡ 0) (room : step_size L ≤ length s.unfinished)
    where
      abbrev size : ℕ
      size = due_size L s.progress

      abbrev kind : ℕ
      kind = due_kind L s.progress

      stop_first : stop_at s.progress ≡ head_size
      stop_first = stop_low s.progress (omega (arith, none))

      -- what is held after the bytes x
      held_is : (x : List ℕ) → length x ≤ size → (grown L s x).unfinished ≡ x ++ drop (length x) s.unfinished
      held_is x h =
          let most = due_most s.progress in
          let e : 0 + length x ≡ length x = omega arith in
          ap (λ (j : ℕ). sets s.unfinished j x) none
          ∙ sets-eq x s.unfinished 0 (omega arith)
          ∙ ap (λ (j : ℕ). x ++ drop j s.unfinished) e

      -- how many bytes are held does not matter to the judgement
      judged_growing : (x : List ℕ) → judged L (grown L s x) (grown L s x).unfinished ≡ judged L s (grown L s x).unfinished
      unfolding judged
      judged_growing x = go (due_number L s.progress s.block (grown L s x).unfinished)
        where
          next' : Session
          next' = advanced L s (grown L s x).unfinished

          go : (n : ℕ) → unless_faulty L n (grown L s x) next' ≡ unless_faulty L n s next'
          go zero = refl
          go (suc n) = refl

      -- fewer than a head has
      pub few : (r : List ℕ) → length r < head_size → fed L s r ≡ grown L s r
      few r h = quiet r s t (omega (arith, none, stop_first))

      module _ (r : List ℕ) (h : head_size ≤ length r) where
        abbrev four : Session
        four = grown L s (take head_size r)

        four_long : length (take head_size r) ≡ head_size
        four_long = length-take-le head_size r h

        four_held : four.progress.held ≡ head_size
        four_held = omega (arith, none, four_long)

        four_unfinished : four.unfinished ≡ take head_size r ++ drop (length (take head_size r)) s.unfinished
        four_unfinished = held_is (take head_size r) (omega (arith, four_long, due_least s.progress))

        begun : fed L s r ≡ fed L (looked L four) (drop head_size r)
        begun =
            ap (fed L s) (sym (take-append-drop head_size r))
            ∙ fed_cut s (take head_size r) (drop head_size r)
            ∙ ap (λ (u : Session). fed L u (drop head_size r))
            (gulp (take head_size r) s t (omega (arith, four_long)) (omega (arith, none, four_long, stop_first)))

        -- another record than the one due
        pub other : head_number size kind r ≡ BAD_RECORD → fed L s r ≡ faulty L s BAD_RECORD
        other e =
            let e' : head_number size kind (take head_size r ++ drop head_size r) ≡ BAD_RECORD =
            ap (head_number size kind) (take-append-drop head_size r) ∙ e in
            let f : head_number size kind four.unfinished ≡ BAD_RECORD =
            ap (head_number size kind) four_unfinished
            ∙ bad_own (take head_size r) (drop (length (take head_size r)) s.unfinished) size kind (drop head_size r)
            (omega (arith, four_long)) e' in
            begun
            ∙ ap (λ (u : Session). fed L u (drop head_size r))
            (sym (looked_bad four.progress four.block four.unfinished BAD_RECORD four_held (sym f) (λ z. omega arith)))
            ∙ fed-faulty s BAD_RECORD (λ z. omega arith) (drop head_size r)

        -- the one due
        module _ (a : half r length_at ≡ size) (b : half r kind_at ≡ kind) where
          half_held : (i : ℕ) → i + 2 ≤ head_size → half four.unfinished i ≡ half r i
          half_held i k =
              ap (λ (u : List ℕ). half u i) four_unfinished
              ∙ half_front (take head_size r) _ i (omega (arith, four_long))
              ∙ sym (half_front (take head_size r) (drop head_size r) i (omega (arith, four_long)))
              ∙ ap (λ (u : List ℕ). half u i) (take-append-drop head_size r)

          begun_right : fed L s r ≡ fed L four (drop head_size r)
          begun_right =
              let long : step_size L ≤ length four.unfinished =
              omega (arith, room, length-sets s.unfinished s.progress.held (take head_size r)) in
              let e = head_right size kind four.unfinished (omega (arith, long))
              (half_held length_at (omega arith) ∙ a) (half_held kind_at (omega arith) ∙ b)
              (omega (arith, long, due_most s.progress)) in
              begun
              ∙ ap (λ (u : Session). fed L u (drop head_size r))
              (sym (looked_on four.progress four.block four.unfinished four_held e))

          four_takes : Takes L four.progress
          four_takes =
              record {
                live = t.live;
                going = t.going;
                room = let g : four.progress.held < size = omega (arith, four_held, due_least s.progress) in g;
              }

          four_stop : stop_at four.progress ≡ size
          four_stop = stop_high four.progress (omega (arith, four_held))

          regrown : grown L four (drop head_size r) ≡ grown L s r
          regrown = grown_more s (take head_size r) (drop head_size r) ∙ ap (grown L s) (take-append-drop head_size r)

          -- not all of it
          pub part : length r < size → fed L s r ≡ grown L s r
          part k =
              begun_right
              ∙ quiet (drop head_size r) four four_takes (omega (arith, four_held, four_stop, length-drop head_size r))
              ∙ regrown

          -- just all of it
          exactly : length r ≡ size → fed L s r ≡ judged L s r
          exactly k =
              let l = due_least s.progress in
              let u : List ℕ = drop (length r) s.unfinished in
              let d = length-drop head_size r in
              let all : (grown L s r).progress.held ≡ due_size L (grown L s r).progress =
              (let g : s.progress.held + length r ≡ size = omega (arith, none, k) in g) in
              begun_right
              ∙ gulp (drop head_size r) four four_takes (omega (arith, d, l, k)) (omega (arith, four_held, four_stop, d, k))
              ∙ ap (looked L) regrown
              ∙ sym (looked_whole (grown L s r).progress s.block (grown L s r).unfinished (λ z. omega (arith, z, none, k, l)) all)
              ∙ judged_growing r
              ∙ ap (judged L s) (held_is r (omega (arith, k)))
              ∙ judged_own s r u (omega (arith, k))

      -- all of it, and what comes behind it
      pub lying : (r : List ℕ) → size ≤ length r → fed L s r ≡ fed L (judged L s r) (drop size r)
      lying r h = go (eqb (half r length_at) size) refl (eqb (half r kind_at) kind) refl
        where
          x : List ℕ
          x = take size r

          x_long : length x ≡ size
          x_long = length-take-le size r h

          l : end_size ≤ size
          l = due_least s.progress

          half_own : (i : ℕ) → i + 2 ≤ head_size → half x i ≡ half r i
          half_own i k =
              sym (half_front x (drop size r) i (omega (arith, x_long, l)))
              ∙ ap (λ (u : List ℕ). half u i) (take-append-drop size r)

          right : half r length_at ≡ size → half r kind_at ≡ kind → fed L s r ≡ fed L (judged L s r) (drop size r)
          right a b =
              ap (fed L s) (sym (take-append-drop size r))
              ∙ fed_cut s x (drop size r)
              ∙ ap (λ (u : Session). fed L u (drop size r))
              (exactly x (omega (arith, x_long, l)) (half_own length_at (omega arith) ∙ a) (half_own kind_at (omega arith) ∙ b) x_long
              ∙ sym (judged_own s x (drop size r) (omega (arith, x_long)))
              ∙ ap (judged L s) (take-append-drop size r))

          wrong : (half r length_at ≡ size → half r kind_at ≡ kind → ⊥) → fed L s r ≡ fed L (judged L s r) (drop size r)
          wrong n =
              let e : head_number size kind r ≡ BAD_RECORD = head_bad size kind r (omega (arith, l)) n in
              let f : due_number L s.progress s.block r ≡ BAD_RECORD =
              due_fault s.progress s.block r (λ z. omega (arith, z, e)) ∙ e in
              other r (omega (arith, l)) e
              ∙ sym (fed-faulty s BAD_RECORD (λ z. omega arith) (drop size r))
              ∙ ap (λ (u : Session). fed L u (drop size r)) (sym (judged-faulty s r BAD_RECORD f (λ z. omega arith)))

          go : (a : Bool) → eqb (half r length_at) size ≡ a → (b : Bool) → eqb (half r kind_at) kind ≡ b
              → fed L s r ≡ fed L (judged L s r) (drop size r)
          go true a true b = right (eqb-true _ _ a) (eqb-true _ _ b)
          go true a false b = wrong (λ _. eqb-false _ _ b)
          go false a b' b = wrong (λ z _. eqb-false _ _ a z)
