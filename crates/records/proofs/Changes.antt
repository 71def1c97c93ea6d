-- A published trace that was changed, cut or added to: the Steps before the harm are judged right as before, and the first
-- record that is harmed shows it.
use mathlib.Core.Path.{◌≡◌, sym, ap, ◌∙◌, subst}
use mathlib.Core.Logic.{◌⊎◌, inl, inr}
use mathlib.Core.List.{List, [], ◌∷◌, ◌++◌, append_assoc, append-nil}
use Prim.Native.Nat.{ℕ, zero, suc, ◌+◌, ◌-◌, ◌*◌, ◌<◌, ◌≤◌, ◌^◌}
use native.Mathlib.Omega.{arith}
use native.Mathlib.Nat.{mul-zero, mul-suc}
use lib.ListN.{length, take, drop, get_or, length-append, take-append-drop}
use lib.Seq.{length-take-le, drop-cons}
use Rattle.words.specs.Word.{half, word, put, Bytes}
use Rattle.words.proofs.Laws.{length-put, word-put_same}
use Rattle.words.proofs.Spell.{half_front}
use Rattle.rules.specs.declared.event.Event.{Event}
use Rattle.rules.specs.declared.verdict.Answer.{Answer}
use Rattle.records.specs.Layout.{Layout, Lawful, start_size, step_size, end_size, end_kind, most_steps, place_of}
use Rattle.records.specs.Layout.{head_size, length_at, kind_at}
use Rattle.records.specs.Published.{IsEvent, IsAnswer, AreEvents, start_record, end_record, step_showing, step_record}
use Rattle.records.specs.Published.{step_records, run, published}
use Rattle.records.specs.Report.{◌else◌, head_number, start_number, step_number, end_number, report, SHORT, WRONG_STEP, TRAILING}
use Rattle.records.specs.Claims.{Falls, CutAt, in_start, in_step, in_end, changed}
use Rattle.records.proofs.Faults.{below, else_first, head_short, head_cut, head_whole}
use Rattle.records.proofs.Records.{end_head, length_end, start_head, step_head, shown_answer, shown_block}
use Rattle.records.proofs.Records.{length_run, bytes_run, length-published, take_begun, steps_append}
use Rattle.records.proofs.Judging.{from_wrong, end_wrong, end_more, start_wrong}
use Rattle.records.proofs.Accepts.{shown_wrong, report_begun, report_ending, end_number_lem}

-- the events of the first part of a list are events, and so are those of the second
pub are_first : (es fs : List Event) → AreEvents (es ++ fs) → AreEvents es
are_first [] fs ok = tt
are_first (e ∷ es) fs ok = (ok.0, are_first es fs ok.1)

pub are_second : (es fs : List Event) → AreEvents (es ++ fs) → AreEvents fs
are_second [] fs ok = ok
are_second (e ∷ es) fs ok = are_second es fs ok.1

module _ (L : Layout) (LL : Lawful L) where
  -- ---- one Step changed

  module _ (b : List ℕ) (es : List Event) (e : Event) (fs : List Event) where
    -- a trace is changed only at that Step: where it shows what the rules give, the trace is the published one
    pub unchanged : changed L b es e (L.answer (run L b es) e) (L.after (run L b es) e) fs
        ≡ published L b (es ++ e ∷ fs)
    unfolding changed published step_records
    unchanged = simp (steps_append L LL es (e ∷ fs) b, append_assoc, length-append)

    module _ (h : length b ≡ L.size) (few : length (es ++ e ∷ fs) ≤ most_steps) (words : AreEvents (es ++ e ∷ fs))
      where
        event_ok : IsEvent e
        event_ok = (are_second es (e ∷ fs) words).0

        -- anything but what the rules give is refused with 11 at that Step's first byte, Steps being its index
        pub step_changed : (x : Answer) (c : List ℕ) → length c ≡ L.size
            → (step_showing L e x c ≡ step_record L (run L b es) e → ⊥)
            → report L (changed L b es e x c fs)
            ≡ record { number = WRONG_STEP; place = place_of L (length es); steps = length es }
        unfolding changed
        step_changed x c l n =
            let m : ℕ = length es + suc (length fs) in
            let k : ℕ = length es in
            let d : List ℕ = run L b es in
            let t : List ℕ = step_records L (L.after d e) fs ++ end_record m in
            let many = length-append es (e ∷ fs) in
            let w = shown_wrong L LL d e event_ok x c t l n in
            report_begun L LL m b es (step_showing L e x c ++ t) (omega arith) (omega arith) h
            (are_first es (e ∷ fs) words)
            ∙ from_wrong L (m - k) k d (step_showing L e x c ++ t) (omega arith) (λ z. omega (arith, w, z))
            ∙ (λ i. record { number = w i; place = place_of L k; steps = k })

        -- the answer was changed, its number or its value
        pub answer_changed : Bytes b → (x : Answer) → IsAnswer x → (x ≡ L.answer (run L b es) e → ⊥)
            → report L (changed L b es e x (L.after (run L b es) e) fs)
            ≡ record { number = WRONG_STEP; place = place_of L (length es); steps = length es }
        answer_changed by x ok n =
            let d : List ℕ = run L b es in
            let size = length_run L LL es b h in
            let fits : IsAnswer (L.answer d e) =
            record { number = LL.number_fits d e size; value = LL.value_fits d e size (bytes_run L LL es b h by) }
            in
            step_changed x (L.after d e) (LL.length_after d e size)
            (λ q. n (shown_answer L LL e e x (L.answer d e) (L.after d e) (L.after d e) ok fits q))

        -- the block after was changed, in any byte, whatever answer is shown with it
        pub block_changed : (x : Answer) (c : List ℕ) → length c ≡ L.size → (c ≡ L.after (run L b es) e → ⊥)
            → report L (changed L b es e x c fs)
            ≡ record { number = WRONG_STEP; place = place_of L (length es); steps = length es }
        block_changed x c l n =
            step_changed x c l (λ q. n (shown_block L LL e e x (L.answer (run L b es) e) c (L.after (run L b es) e)
            q))

        -- one word of it was changed, the saved word of an entry among them: right mode, stale saved state
        pub word_changed : (p w : ℕ) → 4 * p + 4 ≤ L.size → w < 2 ^ 32 → (w ≡ word (L.after (run L b es) e) p → ⊥)
            → report L (changed L b es e (L.answer (run L b es) e) (put (L.after (run L b es) e) p w) fs)
            ≡ record { number = WRONG_STEP; place = place_of L (length es); steps = length es }
        word_changed p w room fits n =
            let d : List ℕ = L.after (run L b es) e in
            let l : length d ≡ L.size = LL.length_after (run L b es) e (length_run L LL es b h) in
            block_changed (L.answer (run L b es) e) (put d p w) (length-put d p w ∙ l)
            (λ q. n (sym (word-put_same d p w (omega arith) fits) ∙ ap (λ (c : List ℕ). word c p) q))

  -- ---- bytes more

  -- any bytes behind a published trace are refused with 12 at its old length, Steps being n
  pub more_refused : (b : List ℕ) (es : List Event) (t : List ℕ) → length b ≡ L.size → length es ≤ most_steps
      → AreEvents es
      → 0 < length t
      → report L (published L b es ++ t)
      ≡ record { number = TRAILING; place = length (published L b es); steps = length es }
  unfolding published
  more_refused b es t h few ok some =
      let n : ℕ = length es in
      ap (report L) (simp append_assoc)
      ∙ report_ending L LL b es (end_record n ++ t) few h ok
      ∙ end_more L n (place_of L n) (end_record n ++ t) (end_number_lem L LL n t (omega arith))
      (omega (arith, length-append (end_record n) t, length_end n))
      ∙ (λ i. record { number = TRAILING; place = sym (length-published L LL b es h) i; steps = n })

  -- ---- cut

  -- a whole record cut after j bytes is short, wherever the cut falls
  cut_short : (len kind : ℕ) (r : List ℕ) (j : ℕ) → head_number len kind r ≡ 0 → j < len
      → head_number len kind (take j r) ≡ SHORT
  cut_short len kind r j z l = go (below j head_size)
    where
      long : length (take j r) ≡ j
      long = length-take-le j r (omega (arith, (head_whole len kind r z).3))

      go : (j < head_size) ⊎ (head_size ≤ j) → head_number len kind (take j r) ≡ SHORT
      go (inl h) = head_short len kind (take j r) (omega (arith, long))
      go (inr h) =
          let whole = head_whole len kind r z in
          let split = take-append-drop j r in
          let a = sym (half_front (take j r) (drop j r) length_at (omega (arith, long))) ∙ ap (λ (s : List ℕ). half s length_at) split
          ∙ whole.1 in
          let b = sym (half_front (take j r) (drop j r) kind_at (omega (arith, long))) ∙ ap (λ (s : List ℕ). half s kind_at) split
          ∙ whole.2 in
          head_cut len kind (take j r) (omega (arith, long)) a b (omega (arith, long))

  -- the fault of a head is that of its record
  first : (h m : ℕ) → h ≡ SHORT → (h else m) ≡ SHORT
  first h m e = else_first h m (λ z. omega arith) ∙ e

  module _ (b : List ℕ) (es : List Event) (h : length b ≡ L.size) (few : length es ≤ most_steps)
      (words : AreEvents es) where
    -- the trace, parted behind k Steps
    parted : (k : ℕ) → k ≤ length es
        → published L b es
        ≡ start_record L (length es) b
        ++ (step_records L b (take k es) ++ (step_records L (run L b (take k es)) (drop k es) ++ end_record (length es)))
    unfolding published
    parted k l =
        let n : ℕ = length es in
        let c : List ℕ = run L b (take k es) in
        ap (λ (t : List ℕ). start_record L n b ++ t)
        (ap (λ (fs : List Event). step_records L b fs ++ end_record n) (sym (take-append-drop k es))
        ∙ ap (λ (t : List ℕ). t ++ end_record n) (steps_append L LL (take k es) (drop k es) b)
        ∙ append_assoc (step_records L b (take k es)) (step_records L c (drop k es)) (end_record n))

    -- cut in the Start
    cut_start : (l : ℕ) → l < start_size L
        → report L (take l (published L b es)) ≡ record { number = SHORT; place = 0; steps = 0 }
    unfolding published start_number
    cut_start l c =
        let s : List ℕ = published L b es in
        let t : List ℕ = step_records L b es ++ end_record (length es) in
        let z = cut_short (start_size L) L.start_kind s l (start_head L LL (length es) b t h) c in
        let e : start_number L (take l s) ≡ SHORT = first (head_number (start_size L) L.start_kind (take l s)) _ z in
        start_wrong L (take l s) (λ y. omega (arith, e, y)) ∙ (λ i. record { number = e i; place = 0; steps = 0 })

    -- cut in the Step behind k whole ones
    cut_step : (k l : ℕ) → k < length es → place_of L k ≤ l → l < place_of L (suc k)
        → report L (take l (published L b es)) ≡ record { number = SHORT; place = place_of L k; steps = k }
    unfolding step_records step_number
    cut_step k l less above under =
        let n : ℕ = length es in
        let fs : List Event = take k es in
        let c : List ℕ = run L b fs in
        let none : Event = record { code = 0; a = 0; b = 0 } in
        let e : Event = get_or es k none in
        let gs : List Event = drop (suc k) es in
        let many : length fs ≡ k = length-take-le k es (omega arith) in
        let next : drop k es ≡ e ∷ gs = drop-cons es k none less in
        let t : List ℕ = step_records L (L.after c e) gs ++ end_record n in
        let r : List ℕ = step_record L c e ++ t in
        let size : length (L.after c e) ≡ L.size = LL.length_after c e (length_run L LL fs b h) in
        let j : ℕ = l - place_of L k in
        let short : j < step_size L = omega (arith, mul-suc (step_size L) k) in
        let at : l ≡ place_of L (length fs) + j = omega (arith, ap (λ (i : ℕ). step_size L * i) many) in
        let rest : step_records L c (drop k es) ++ end_record n ≡ r =
        ap (λ (gs : List Event). step_records L c gs ++ end_record n) next
        ∙ append_assoc (step_record L c e) (step_records L (L.after c e) gs) (end_record n) in
        let is : published L b es ≡ start_record L n b ++ (step_records L b fs ++ r) =
        parted k (omega arith) ∙ ap (λ (t : List ℕ). start_record L n b ++ (step_records L b fs ++ t)) rest in
        let z = cut_short (step_size L) L.step_kind r j (step_head L LL e (L.answer c e) (L.after c e) size t)
        short in
        let w : step_number L c (take j r) ≡ SHORT = first (head_number (step_size L) L.step_kind (take j r)) _ z in
        (λ i. report L (take (at i) (is i)))
        ∙ ap (report L) (take_begun L LL n b fs r j h)
        ∙ report_begun L LL n b fs (take j r) (omega arith) few h
        (are_first fs (drop k es) (subst AreEvents (sym (take-append-drop k es)) words))
        ∙ from_wrong L (n - length fs) (length fs) c (take j r) (omega arith) (λ y. omega (arith, w, y))
        ∙ (λ i. record { number = w i; place = place_of L (many i); steps = many i })

    -- cut in the End
    cut_end : (l : ℕ) → place_of L (length es) ≤ l → l < place_of L (length es) + end_size
        → report L (take l (published L b es))
        ≡ record { number = SHORT; place = place_of L (length es); steps = length es }
    unfolding published end_number
    cut_end l above under =
        let n : ℕ = length es in
        let j : ℕ = l - place_of L n in
        let at : l ≡ place_of L n + j = omega arith in
        let whole = ap (head_number end_size end_kind) (sym (append-nil (end_record n))) ∙ end_head n [] in
        let z = cut_short end_size end_kind (end_record n) j whole (omega arith) in
        let w : end_number n (take j (end_record n))
        ≡ SHORT = first (head_number end_size end_kind (take j (end_record n))) _ z in
        ap (λ (i : ℕ). report L (take i (published L b es))) at
        ∙ ap (report L) (take_begun L LL n b es (end_record n) j h)
        ∙ report_ending L LL b es (take j (end_record n)) few h words
        ∙ end_wrong L n (place_of L n) (take j (end_record n)) (λ y. omega (arith, w, y))
        ∙ (λ i. record { number = w i; place = place_of L n; steps = n })

    -- a trace cut anywhere is refused with 8 at the first byte of the record that the cut falls in or that is missing,
    -- Steps being the whole Steps before it
    pub cut_refused : (l place k : ℕ) → CutAt L (length es) l place k
        → report L (take l (published L b es)) ≡ record { number = SHORT; place = place; steps = k }
    cut_refused l _ _ (in_start c) = cut_start l c
    cut_refused l _ _ (in_step k less above under) = cut_step k l less above under
    cut_refused l _ _ (in_end above under) = cut_end l above under

  -- and every cut below the length falls in one
  falls_before : (n l m : ℕ) → m ≤ n → l < place_of L m → Falls L n l
  falls_before n l zero h c = record { place = 0; steps = 0; at = in_start (omega (arith, mul-zero (step_size L))) }
  falls_before n l (suc m) h c = go (below l (place_of L m)) (falls_before n l m (omega arith))
    where
      go : (l < place_of L m) ⊎ (place_of L m ≤ l) → (l < place_of L m → Falls L n l) → Falls L n l
      go (inl d) more = more d
      go (inr d) more = record { place = place_of L m; steps = m; at = in_step m (omega arith) d c }

  pub cut_falls : (b : List ℕ) (es : List Event) (l : ℕ) → length b ≡ L.size → l < length (published L b es)
      → Falls L (length es) l
  cut_falls b es l h c = go (below l (place_of L (length es)))
    where
      go : (l < place_of L (length es)) ⊎ (place_of L (length es) ≤ l) → Falls L (length es) l
      go (inl d) = falls_before (length es) l (length es) (omega arith) d
      go (inr d) =
          record {
            place = place_of L (length es);
            steps = length es;
            at = in_end d
                (omega (arith, length-published L LL b es h));
          }
