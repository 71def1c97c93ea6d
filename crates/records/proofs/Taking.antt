-- What a feeding takes of a run at once, and that it is what the bytes do one by one: bytes of one record that are held, all of a
-- run that changes nothing, a whole record where it lies, and many Steps.
use mathlib.Core.Path.{◌≡◌, refl, sym, ap, ◌∙◌, subst}
use mathlib.Core.Bool.{true, false}
use mathlib.Core.Logic.{◌⊎◌, inl, inr}
use mathlib.Core.List.{List, [], ◌++◌, append_assoc}
use Prim.Native.Nat.{ℕ, zero, suc, ◌+◌, ◌-◌, ◌*◌, ◌%◌, ◌<◌, ◌≤◌, ◌^◌}
use native.Mathlib.Omega.{arith}
use native.Mathlib.Nat.{add-zero, mul-zero, mul-suc, mod-eq_of_lt}
use lib.ListN.{length, take, drop, length-replicate, length-drop, take-append-drop, drop_of_length-le}
use lib.Seq.{sets, sets-eq, length-sets, length-take-le, drop-drop}
use lib.Dec.{eqb, leb}
use borrow.Author.Tests.{le-leb, lt-leb, lt-ltb, le-ltb, eq-eqb, ne_eqb}
use Rattle.words.specs.Word.{half}
use Rattle.words.proofs.Spell.{half_front}
use Rattle.records.specs.declared.session.Progress.{Progress}
use Rattle.records.specs.declared.session.Session.{Session}
use Rattle.records.specs.Layout.{Layout, head_size, start_size, step_size, end_size, length_at, kind_at}
use Rattle.records.specs.Report.{unless, ◌else◌, head_number, event_of, SHORT, BAD_RECORD}
use Rattle.records.specs.Session.{AT_START, OVER, session, is_live, is_over, holding, due_size, due_kind}
use Rattle.records.specs.Session.{due_number, advancing, nothing_held}
use Rattle.records.specs.Session.{faulty, unless_faulty, advanced, judged, looked, grown, fed}
use Rattle.records.specs.Judged.{Run, Judged, block_after, number_behind, Went}
use Rattle.records.specs.Fed.{Taken, Takes, head_seen, ended, seen_from, stepped, concluded}
use Rattle.records.proofs.Faults.{zero_or_not, below}
use Rattle.records.proofs.Feeding.{count_stays, due_start, due_step, due_end, due_of_step, either, due_least, due_most}
use Rattle.records.proofs.Feeding.{concluded-faulty, concluded_right, concluded-judged, looked_bad, looked_on, unless_faulty_lem}
use Rattle.records.proofs.Feeding.{fed_cut, fed_nothing, fed-faulty, grown_more, grown_none, stop_low, stop_high, gulp, quiet, lying}

module _ (L : Layout) where
  -- ---- bytes of one record

  -- heads that agree on their four bytes, of arrays of one length
  head_same : (len kind : ℕ) (u v : List ℕ) → length u ≡ length v → half u length_at ≡ half v length_at → half u kind_at ≡ half v kind_at
      → head_number len kind u ≡ head_number len kind v
  unfolding head_number
  head_same len kind u v l a b =
      λ i. unless (leb head_size (l i)) SHORT else unless (eqb (a i) len) BAD_RECORD else unless (eqb (b i) kind) BAD_RECORD else
      unless (leb len (l i)) SHORT

  -- bytes put behind the head leave it
  half_kept : (u y : List ℕ) (i : ℕ) → i + 2 ≤ head_size → head_size + length y ≤ length u → half (sets u head_size y) i ≡ half u i
  half_kept u y i h k =
      let four : length (take head_size u) ≡ head_size = length-take-le head_size u (omega arith) in
      ap (λ (v : List ℕ). half v i) (sets-eq y u head_size k ∙ append_assoc (take head_size u) y (drop (head_size + length y) u))
      ∙ half_front (take head_size u) (y ++ drop (head_size + length y) u) i (omega (arith, four))
      ∙ sym (half_front (take head_size u) (drop head_size u) i (omega (arith, four)))
      ∙ ap (λ (v : List ℕ). half v i) (take-append-drop head_size u)

  -- behind the head only the record's last byte shows anything
  looked-ended : (s : Session) → head_size < s.progress.held → looked L s ≡ ended L s
  unfolding looked
  looked-ended s h = simp (ne_eqb s.progress.held head_size (λ z. omega arith))

  -- bytes of one record: what is seen with them
  module _ (s : Session) (t : Takes L s.progress) (room : step_size L ≤ length s.unfinished) (x : List ℕ) (z : 0 < length x)
      (fits : s.progress.held + length x ≤ due_size L s.progress) where
    abbrev at : ℕ
    at = s.progress.held

    abbrev size' : ℕ
    size' = due_size L s.progress

    -- they lie behind the head, or not all of the head is there yet
    seen_behind : head_size ≤ at → fed L s x ≡ seen_from L at (grown L s x)
    seen_behind h =
        gulp L x s t z (omega (arith, stop_high L s.progress h))
        ∙ looked-ended (grown L s x) (omega arith)
        ∙ sym (simp (le-leb head_size at h))

    seen_before : at + length x < head_size → fed L s x ≡ seen_from L at (grown L s x)
    seen_before h =
        let l = due_least L s.progress in
        quiet L x s t (omega (arith, stop_low L s.progress (omega arith)))
        ∙ sym (simp (
          lt-leb head_size at (omega arith),
          lt-ltb (at + length x) head_size h,
          ne_eqb (at + length x) size' (λ e. omega arith),
        ))

    -- the head's last byte is among them
    module _ (h : at < head_size) (k : head_size ≤ at + length x) where
      abbrev n : ℕ
      n = head_size - at

      abbrev first : List ℕ
      first = take n x

      abbrev rest : List ℕ
      rest = drop n x

      first_long : length first ≡ n
      first_long = length-take-le n x (omega arith)

      abbrev headed : Session
      headed = grown L s first

      headed_held : headed.progress.held ≡ head_size
      headed_held = omega (arith, first_long)

      all : grown L headed rest ≡ grown L s x
      all = grown_more L s first rest ∙ ap (grown L s) (take-append-drop n x)

      abbrev number : ℕ
      number = head_number size' (due_kind L s.progress) headed.unfinished

      split : fed L s x ≡ fed L (looked L headed) rest
      split =
          ap (fed L s) (sym (take-append-drop n x))
          ∙ fed_cut L s first rest
          ∙ ap (λ (u : Session). fed L u rest)
          (gulp L first s t (omega (arith, first_long)) (omega (arith, first_long, stop_low L s.progress h)))

      -- the head is the same with all of them
      same_number : head_number size' (due_kind L s.progress) (grown L s x).unfinished ≡ number
      same_number =
          let long = length-sets s.unfinished at first in
          let more = length-drop n x in
          let most = due_most L s.progress in
          let behind : head_size + length rest ≤ length headed.unfinished = omega (arith, long, room, more, most) in
          let moved : (grown L s x).unfinished ≡ sets headed.unfinished head_size rest =
          sym (ap (λ (u : Session). u.unfinished) all) ∙ ap (λ (j : ℕ). sets headed.unfinished j rest) headed_held in
          ap (head_number size' (due_kind L s.progress)) moved
          ∙ head_same size' (due_kind L s.progress) (sets headed.unfinished head_size rest) headed.unfinished
          (length-sets headed.unfinished head_size rest) (half_kept headed.unfinished rest length_at (omega arith) behind)
          (half_kept headed.unfinished rest kind_at (omega arith) behind)

      seen_is : seen_from L at (grown L s x) ≡ unless_faulty L number (grown L s x) (ended L (grown L s x))
      seen_is =
          simp (lt-leb head_size at h, le-ltb (at + length x) head_size k)
          (ap (λ (m : ℕ). unless_faulty L m (grown L s x) (ended L (grown L s x))) same_number)

      wrong_head : (number ≡ 0 → ⊥) → fed L s x ≡ seen_from L at (grown L s x)
      wrong_head y =
          split
          ∙ ap (λ (u : Session). fed L u rest)
          (sym (looked_bad L headed.progress headed.block headed.unfinished number headed_held refl y))
          ∙ fed-faulty L headed number y rest
          ∙ sym (seen_is ∙ unless_faulty_lem L number (grown L s x) (ended L (grown L s x)) y)

      right_head : number ≡ 0 → (0 < length rest) ⊎ (length rest ≤ 0) → fed L s x ≡ seen_from L at (grown L s x)
      right_head y more =
          split
          ∙ ap (λ (u : Session). fed L u rest) (sym (looked_on L headed.progress headed.block headed.unfinished headed_held y))
          ∙ go more
          ∙ sym (seen_is ∙ ap (λ (m : ℕ). unless_faulty L m (grown L s x) (ended L (grown L s x))) y)
        where
          long : length rest ≡ length x - n
          long = length-drop n x

          headed_takes : Takes L headed.progress
          headed_takes =
              record {
                live = t.live;
                going = t.going;
                room = let g : headed.progress.held < size' = omega (arith, headed_held, due_least L s.progress) in g;
              }

          go : (0 < length rest) ⊎ (length rest ≤ 0) → fed L headed rest ≡ ended L (grown L s x)
          go (inl w) =
              gulp L rest headed headed_takes w
              (omega (arith, headed_held, long, stop_high L headed.progress (omega (arith, headed_held))))
              ∙ ap (looked L) all
              ∙ looked-ended (grown L s x) (omega (arith, long))
          go (inr w) =
              let none : rest ≡ [] = drop_of_length-le x {i = n} (omega (arith, long)) in
              let e : grown L s x ≡ headed = sym all ∙ ap (grown L headed) none ∙ grown_none L headed in
              let few' : at + length x ≡ size' → ⊥ = λ q. omega (arith, long, due_least L s.progress) in
              ap (fed L headed) none ∙ fed_nothing L headed ∙ sym e ∙ sym (simp (ne_eqb (at + length x) size' few'))

    pub seen_all : fed L s x ≡ seen_from L at (grown L s x)
    seen_all = go (below at head_size) (below (at + length x) head_size)
      where
        go : (at < head_size) ⊎ (head_size ≤ at) → (at + length x < head_size) ⊎ (head_size ≤ at + length x)
            → fed L s x ≡ seen_from L at (grown L s x)
        go (inr h) k = seen_behind h
        go (inl h) (inl k) = seen_before k
        go (inl h) (inr k) = go2 (zero_or_not (number h k))
          where
            go2 : (number h k ≡ 0) ⊎ (number h k ≡ 0 → ⊥) → fed L s x ≡ seen_from L at (grown L s x)
            go2 (inl y) = right_head h k y (either (length (rest h k)))
            go2 (inr y) = wrong_head h k y

  -- and by what it is seen
  module _ (before : ℕ) (p : Progress) (b u : List ℕ) where
    abbrev s₁ : Session
    s₁ = session p b u

    pub seen_bad : (n : ℕ) → n ≡ head_seen L before p u → (n ≡ 0 → ⊥) → faulty L s₁ n ≡ seen_from L before s₁
    seen_bad n e z =
        sym (ap (λ (m : ℕ). unless_faulty L m s₁ (ended L s₁)) (sym e) ∙ unless_faulty_lem L n s₁ (ended L s₁) z)

    pub seen_whole : head_seen L before p u ≡ 0 → p.held ≡ due_size L p → judged L s₁ u ≡ seen_from L before s₁
    seen_whole z e =
        sym (ap (λ (m : ℕ). unless_faulty L m s₁ (ended L s₁)) z ∙ simp (eq-eqb p.held (due_size L p) e))

    pub seen_not : head_seen L before p u ≡ 0 → (p.held ≡ due_size L p → ⊥) → s₁ ≡ seen_from L before s₁
    seen_not z e =
        sym (ap (λ (m : ℕ). unless_faulty L m s₁ (ended L s₁)) z ∙ simp (ne_eqb p.held (due_size L p) e))

  -- bytes that are held, up to the record's last
  pub hold_taken : (p : Progress) (b u r : List ℕ) (n : ℕ) → Takes L p → step_size L ≤ length u → 0 < n → n ≤ length r
      → p.held + n ≤ due_size L p
      → (t : Session)
      → t ≡ seen_from L p.held (session (holding p (p.held + n)) b (sets u p.held (take n r)))
      → Taken L (session p b u) r t n
  hold_taken p b u r n takes room z k l t e =
      let long : length (take n r) ≡ n = length-take-le n r k in
      let s : Session = session p b u in
      record {
        some = z;
        within = k;
        same = ap (fed L s) (sym (take-append-drop n r))
            ∙ fed_cut L s (take n r) (drop n r)
            ∙ ap (λ (v : Session). fed L v (drop n r))
            (seen_all s takes room (take n r) (omega (arith, long)) (omega (arith, long))
            ∙ ap (λ (m : ℕ). seen_from L p.held (session (holding p (p.held + m)) b (sets u p.held (take n r)))) long
            ∙ sym e);
      }

  -- all of them, which leave the session that it has become
  pub all_taken : (s t : Session) (r : List ℕ) → 0 < length r → fed L s r ≡ t → Taken L s r t (length r)
  unfolding fed
  all_taken s t r h e =
      let none : drop (length r) r ≡ [] = drop_of_length-le r {i = length r} (omega arith) in
      record { some = h; within = omega arith; same = e ∙ sym (ap (fed L t) none) }

  -- a whole record
  pub record_taken : (p : Progress) (b u r : List ℕ) → Takes L p → p.held ≡ 0 → step_size L ≤ length u
      → due_size L p ≤ length r
      → (t : Session)
      → t ≡ judged L (session p b u) r
      → Taken L (session p b u) r t (due_size L p)
  record_taken p b u r takes none room h t e =
      record {
        some = omega (arith, due_least L p);
        within = h;
        same = lying L (session p b u) takes none room r h ∙ ap (λ (v : Session). fed L v (drop (due_size L p) r)) (sym e);
      }

  -- ---- Steps that lie whole in a run

  -- where the record due is as long as a Step, it is one
  pub step_due : (p : Progress) → due_size L p ≡ step_size L → (p.stage ≡ AT_START → ⊥) × (p.steps < p.count)
  step_due p e = go (below p.steps p.count)
    where
      start : p.stage ≡ AT_START → ⊥
      start z = omega (arith, e, due_start p (start_size L) (step_size L) end_size z)

      go : (p.steps < p.count) ⊎ (p.count ≤ p.steps) → (p.stage ≡ AT_START → ⊥) × (p.steps < p.count)
      go (inl l) = (start, l)
      go (inr l) = absurd (omega (arith, e, due_end p (start_size L) (step_size L) end_size start l))

  -- so many bytes were taken, whole right Steps all of them, and so many whole Steps are left
  pub record Stepping (s : Session) (r : List ℕ) (q : Progress) (b : List ℕ) (taken left : ℕ) : Type 0 where
    pub live : is_live q ≡ true
    pub behind : q.stage ≡ AT_START → ⊥
    pub going : is_over q ≡ false
    pub none : q.held ≡ 0
    pub few : q.steps + left ≤ q.count
    pub within : taken + step_size L * left ≤ length r
    pub some : 0 < taken + left
    pub same : fed L s r ≡ fed L (session q b (nothing_held L)) (drop taken r)

  -- what was held of a record before does not matter where all of it comes
  pub judged_anew : (p : Progress) (b u v r : List ℕ) → judged L (session p b u) r ≡ judged L (session p b v) r
  unfolding judged
  judged_anew p b u v r = go (due_number L p b r)
    where
      go : (n : ℕ) → unless_faulty L n (session p b u) (advanced L (session p b u) r)
          ≡ unless_faulty L n (session p b v) (advanced L (session p b v) r)
      go zero = refl
      go (suc n) = refl

  room_held : step_size L ≤ length (nothing_held L)
  room_held = omega (arith, length-replicate {A = ℕ} (step_size L) 0)

  pub taken_anew : (p : Progress) (b u v r : List ℕ) → Takes L p → p.held ≡ 0 → step_size L ≤ length u → step_size L ≤ length v
      → due_size L p ≤ length r
      → (t : Session) (n : ℕ)
      → Taken L (session p b u) r t n
      → Taken L (session p b v) r t n
  taken_anew p b u v r takes none room room' h t n taken =
      record {
        some = taken.some;
        within = taken.within;
        same = lying L (session p b v) takes none room' r h
            ∙ ap (λ (w : Session). fed L w (drop (due_size L p) r)) (judged_anew p b v u r)
            ∙ sym (lying L (session p b u) takes none room r h)
            ∙ taken.same;
      }

  pub stepping_none : (p : Progress) (b r : List ℕ) (left : ℕ) → Takes L p → p.held ≡ 0 → due_size L p ≡ step_size L → 0 < left
      → left ≤ p.count - p.steps
      → step_size L * left ≤ length r
      → Stepping (session p b (nothing_held L)) r p b 0 left
  stepping_none p b r left takes none e z few within =
      let d = step_due p e in
      record {
        live = takes.live;
        behind = d.0;
        going = takes.going;
        none = none;
        few = omega (arith, d.1);
        within = omega arith;
        some = omega arith;
        same = refl;
      }

  module _ (s : Session) (r : List ℕ) (q : Progress) (b : List ℕ) (taken left : ℕ) (at : Stepping s r q b taken left)
      (z : 0 < left) where
    not_start : q.stage ≡ AT_START → ⊥
    not_start = at.behind

    more : q.steps < q.count
    more = omega (arith, at.few)

    size_due : due_size L q ≡ step_size L
    size_due = due_step q _ _ _ not_start more

    one_less : step_size L * left ≡ step_size L + step_size L * (left - 1)
    one_less = go left z
      where
        go : (n : ℕ) → 0 < n → step_size L * n ≡ step_size L + step_size L * (n - 1)
        go zero h = absurd (omega arith)
        go (suc n) h = let e : suc n - 1 ≡ n = omega arith in omega (arith, mul-suc (step_size L) n, ap (λ (m : ℕ). step_size L * m) e)

    -- the next one is there whole
    pub step_whole : taken + step_size L ≤ length r
    step_whole = omega (arith, at.within, one_less)

    abbrev before : Session
    before = session q b (nothing_held L)

    takes_step : Takes L q
    takes_step =
        record {
          live = at.live;
          going = at.going;
          room = omega (arith, at.none, size_due);
        }

    on : fed L s r ≡ fed L (judged L before (drop taken r)) (drop (taken + step_size L) r)
    on =
        at.same
        ∙ lying L before takes_step at.none room_held (drop taken r) (omega (arith, size_due, step_whole, length-drop taken r))
        ∙ (λ i. fed L (judged L before (drop taken r)) (drop (size_due i) (drop taken r)))
        ∙ ap (fed L (judged L before (drop taken r))) (drop-drop (step_size L) taken r)

    module _ (n : ℕ) (c : List ℕ) (j : Judged L (drop taken r) b n c) where
      judged_is : judged L before (drop taken r) ≡ concluded L n q q.count c
      judged_is =
          sym (concluded-judged L q (drop taken r) b c (nothing_held L) n q.count
          (due_of_step L q (drop taken r) b n c not_start more j) (count_stays q (drop taken r) not_start))

      pub stepping_next : n ≡ 0 → Stepping s r (stepped L 1 q) c (taken + step_size L) (left - 1)
      stepping_next e =
          let once : step_size L * 1 ≡ step_size L = (let m = mul-suc (step_size L) 0 in omega (arith, m, mul-zero (step_size L))) in
          let behind : stepped L 1 q ≡ advancing L q q.count =
          (λ i. record {
            stage = sym (due_step q L.next q.stage OVER not_start more) i;
            count = q.count;
            steps = sym (due_step q 0 (q.steps + 1) q.steps not_start more) i;
            place = (q.place + (once ∙ sym size_due) i) % 2 ^ 32;
            held = at.none i;
            fault = q.fault;
            closed = q.closed;
          }) in
          record {
            live = at.live;
            behind = at.behind;
            going = at.going;
            none = at.none;
            few = omega (arith, at.few);
            within = omega (arith, at.within, one_less);
            some = omega arith;
            same = on
                ∙ ap (λ (t : Session). fed L t (drop (taken + step_size L) r))
                (judged_is ∙ sym (concluded_right L q (stepped L 1 q) n q.count c e behind));
          }

      pub stepping_wrong : (n ≡ 0 → ⊥) → (u : List ℕ) → Taken L s r (faulty L (session q c u) n) (length r)
      stepping_wrong h u =
          all_taken s (faulty L (session q c u) n) r (omega (arith, step_whole))
          (on
          ∙ ap (λ (t : Session). fed L t (drop (taken + step_size L) r))
          (judged_is ∙ sym (concluded-faulty L (session q c u) n q.count c h))
          ∙ fed-faulty L (session q c u) n h (drop (taken + step_size L) r))

  -- ---- many Steps

  -- one more behind k of them
  stepped_more : (k : ℕ) (p : Progress) → stepped L 1 (stepped L k p) ≡ stepped L (suc k) p
  stepped_more k p =
      let once : step_size L * 1 ≡ step_size L = (let m = mul-suc (step_size L) 0 in omega (arith, m, mul-zero (step_size L))) in
      let steps : p.steps + k + 1 ≡ p.steps + suc k = omega arith in
      let place : ((p.place + step_size L * k) % 2 ^ 32 + step_size L * 1) % 2 ^ 32 ≡ (p.place + step_size L * suc k) % 2 ^ 32 =
      omega (arith, once, mul-suc (step_size L) k) in
      λ i. record {
        stage = p.stage;
        count = p.count;
        steps = steps i;
        place = place i;
        held = p.held;
        fault = p.fault;
        closed = p.closed;
      }

  module _ (p : Progress) (b r : List ℕ) (left : ℕ) (at : Stepping (session p b (nothing_held L)) r p b 0 left)
      (word : p.place < 2 ^ 32) where
    abbrev from : Session
    from = session p b (nothing_held L)

    -- k right ones were taken
    stepping_many : (k : ℕ) → k ≤ left → ((j : ℕ) → j < k → number_behind L j b r ≡ 0)
        → Stepping from r (stepped L k p) (block_after L k b r) (step_size L * k) (left - k)
    unfolding block_after
    stepping_many zero h right =
        let none = mul-zero (step_size L) in
        let place : (p.place + step_size L * 0) % 2 ^ 32 ≡ p.place =
        ap (λ (m : ℕ). (p.place + m) % 2 ^ 32) none
        ∙ ap (λ (m : ℕ). m % 2 ^ 32) (add-zero p.place)
        ∙ mod-eq_of_lt word in
        let e : p ≡ stepped L 0 p =
        (λ i. record {
          stage = p.stage;
          count = p.count;
          steps = sym (add-zero p.steps) i;
          place = sym place i;
          held = p.held;
          fault = p.fault;
          closed = p.closed;
        }) in
        let all : left ≡ left - 0 = omega arith in
        subst (λ (m : ℕ). Stepping from r (stepped L 0 p) b (step_size L * 0) m) all
        (subst (λ (m : ℕ). Stepping from r (stepped L 0 p) b m left) (sym none)
        (subst (λ (q : Progress). Stepping from r q b 0 left) e at))
    stepping_many (suc k) h right =
        let before = stepping_many k (omega arith) (λ j l. right j (omega arith)) in
        let r' : List ℕ = drop (step_size L * k) r in
        let judgement : Judged L r' (block_after L k b r) 0 (L.after (block_after L k b r) (event_of r')) =
        record { number = sym (right k (omega arith)); block = λ _. refl } in
        let less : left - k - 1 ≡ left - suc k = omega arith in
        let next' = stepping_next from r (stepped L k p) (block_after L k b r) (step_size L * k) (left - k) before (omega arith) 0
        (L.after (block_after L k b r) (event_of r')) judgement refl in
        subst (λ (m : ℕ). Stepping from r (stepped L (suc k) p) (block_after L (suc k) b r) (step_size L * suc k) m) less
        (subst (λ (m : ℕ). Stepping from r (stepped L (suc k) p) (block_after L (suc k) b r) m (left - k - 1))
        (sym (mul-suc (step_size L) k))
        (subst (λ (q : Progress). Stepping from r q (block_after L (suc k) b r) (step_size L * k + step_size L) (left - k - 1))
        (stepped_more k p) next'))

    module _ (v : Run) (c : List ℕ) (went : Went L r left b v c) where
      here : Stepping from r (stepped L v.right p) (block_after L v.right b r) (step_size L * v.right) (left - v.right)
      here = stepping_many v.right went.few went.right

      -- all of them are right
      pub steps_taken : 0 < left → v.fault ≡ 0
          → Taken L from r (session (stepped L v.right p) c (nothing_held L)) (step_size L * v.right)
      steps_taken z e =
          let a = went.all e in
          subst (λ (d : List ℕ). Taken L from r (session (stepped L v.right p) d (nothing_held L)) (step_size L * v.right))
          (sym a.1)
          (record { some = omega (arith, here.some, a.0); within = went.inside; same = here.same })

      -- one is wrong
      pub steps_refused : (v.fault ≡ 0 → ⊥) → (u : List ℕ)
          → Taken L from r (faulty L (session (stepped L v.right p) c u) v.fault) (length r)
      steps_refused z u =
          let w = went.wrong z in
          stepping_wrong from r (stepped L v.right p) (block_after L v.right b r) (step_size L * v.right) (left - v.right) here
          (omega (arith, w.0)) v.fault c (record { number = w.1; block = λ e. absurd (z e) }) z u

  -- ---- turn after turn

  -- of the bytes r so many were taken, and the session has become t, to which the others come
  pub record Fed (s : Session) (r : List ℕ) (t : Session) (taken : ℕ) : Type 0 where
    pub within : taken ≤ length r
    pub same : fed L s r ≡ fed L t (drop taken r)

  pub fed_none : (s : Session) (r : List ℕ) → Fed s r s 0
  fed_none s r = record { within = omega arith; same = refl }

  pub fed_more : (s : Session) (r : List ℕ) (t : Session) (taken : ℕ) (u : Session) (n : ℕ) → Fed s r t taken
      → Taken L t (drop taken r) u n
      → Fed s r u (taken + n)
  fed_more s r t taken u n f more =
      record {
        within = omega (arith, f.within, more.within, length-drop taken r);
        same = f.same ∙ more.same ∙ ap (fed L u) (drop-drop n taken r);
      }

  pub fed_all_lem : (s : Session) (r : List ℕ) (t : Session) (taken : ℕ) → Fed s r t taken → length r ≤ taken → fed L s r ≡ t
  unfolding fed
  fed_all_lem s r t taken f h = f.same ∙ ap (fed L t) (drop_of_length-le r {i = taken} h)
