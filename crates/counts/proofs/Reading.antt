-- The Steps that an accepted trace shows are those that the rules made of its events, and the words of its counts go by
-- them.
use Rattle.std.specs.Prelude.{if◌then◌else◌}
use mathlib.Core.Path.{◌≡◌, refl, sym, ap, ◌∙◌}
use mathlib.Core.Bool.{Bool, true, false}
use mathlib.Core.Logic.{◌↔◌}
use mathlib.Core.List.{List, [], ◌∷◌, ◌++◌, append_assoc}
use Prim.Native.Nat.{ℕ, suc, ◌+◌, ◌<◌, ◌≤◌}
use native.Mathlib.Omega.{arith}
use lib.ListN.{length, drop}
use lib.Dec.{eqb}
use borrow.Author.Tests.{eq-eqb, ne_eqb}
use Rattle.words.specs.Word.{spelt, word, Bytes}
use Rattle.words.proofs.Laws.{spells}
use Rattle.words.proofs.Agree.{never}
use Rattle.state.specs.Number.{DONE, BAD_SIZE, FULL}
use Rattle.rules.specs.declared.event.Event.{Event}
use Rattle.rules.specs.declared.verdict.Answer.{Answer}
use Rattle.records.specs.declared.report.Report.{Report}
use Rattle.records.specs.Layout.{Layout, Lawful, start_size, place_of, most_steps, number_at, value_at}
use Rattle.records.specs.Published.{IsAnswer, AreEvents, step_showing, step_record, step_records, end_record, published, Published}
use Rattle.records.specs.Report.{report, ACCEPTED}
use Rattle.records.specs.Claims.{Accepted, events_of}
use Rattle.records.proofs.Records.{start_rest, step_event, step_rest, length-published}
use Rattle.records.proofs.Determined.{start_read, events_read}
use Rattle.records.proofs.Theorems.{theorems}
use Rattle.counts.specs.Counts.{Step, steps_from, steps_of, gain, sum, any_passes, spell_words, WORDS, COUNTS_SIZE}
use Rattle.counts.specs.Counts.{count_returns, count_leaves}
use Rattle.counts.specs.Parts.{shown_steps, Gains, Fits}
use Rattle.counts.proofs.Adding.{none_passes, all_below, same_words}

module _ (L : Layout) (LL : Lawful L) where
  -- the answer that a Step shows
  shown_answer : (e : Event) (x : Answer) (c t : List ℕ) → IsAnswer x
      → record { number = spelt (step_showing L e x c ++ t) number_at; value = spelt (step_showing L e x c ++ t) value_at } ≡ x
  unfolding step_showing spelt
  shown_answer e x c t ok = λ i. record { number = spells x.number ok.number i; value = spells x.value ok.value i }

  steps_back : (es : List Event) (b t : List ℕ) → length b ≡ L.size → Bytes b → AreEvents es
      → shown_steps L (length es) (step_records L b es ++ t) ≡ steps_from L b es
  unfolding shown_steps steps_from step_records
  steps_back [] b t h by ok = refl
  steps_back (e ∷ es) b t h by ok =
      let x : Answer = L.answer b e in
      let c : List ℕ = L.after b e in
      let u : List ℕ = step_records L c es ++ t in
      let l = LL.length_after b e h in
      let fits : IsAnswer x = record { number = LL.number_fits b e h; value = LL.value_fits b e h by } in
      ap (shown_steps L (suc (length es))) (append_assoc (step_record L b e) (step_records L c es) t)
      ∙ (λ i. record { event = step_event L LL e x c l u ok.0 i; answer = shown_answer e x c u fits i }
      ∷ shown_steps L (length es) (step_rest L LL e x c l u i))
      ∙ ap (λ (ss : List Step). record { event = e; answer = x } ∷ ss)
      (steps_back es c t l (LL.bytes_after b e h by) ok.1)

  module _ (s : List ℕ) (p : Published L s) where
    shown_all : shown_steps L (length p.events) (drop (start_size L) s) ≡ steps_of L s
    unfolding published
    shown_all =
        let n : ℕ = length p.events in
        let t : List ℕ = step_records L p.start p.events ++ end_record n in
        ap (λ (r : List ℕ). shown_steps L n (drop (start_size L) r)) p.is
        ∙ ap (shown_steps L n) (start_rest L LL n p.start t p.size)
        ∙ steps_back p.events p.start (end_record n) p.size p.bytes p.words
        ∙ (λ i. steps_from L (sym (start_read L LL s p) i) (sym (events_read L LL s p) i))

  -- ---- a report that is the checker's, of an accepted trace

  module _ (s : List ℕ) (by : Bytes s) (v : Report) (is : v ≡ report L s) (ok : v.number ≡ ACCEPTED) where
    accepted : Accepted L s v
    accepted = rw is (((theorems L LL).says s by).accepted_whole (sym (ap (λ (x : Report). x.number) is) ∙ ok))

    pub steps_read : length (events_of L s) ≡ v.steps
    steps_read = ap length (events_read L LL s accepted.whole) ∙ sym accepted.steps

    pub steps-few : v.steps ≤ most_steps
    steps-few = omega (arith, accepted.steps, accepted.whole.few)

    pub steps-whole : place_of L v.steps ≤ length s
    steps-whole =
        let p = accepted.whole in
        let n = ap (place_of L) accepted.steps in
        omega (arith, ap length p.is, length-published L LL p.start p.events p.size, n)

    steps_shown : shown_steps L v.steps (drop (start_size L) s) ≡ steps_of L s
    steps_shown =
        ap (λ (k : ℕ). shown_steps L k (drop (start_size L) s)) accepted.steps ∙ shown_all s accepted.whole

    module _ (counts gains : List ℕ) (g : Gains (shown_steps L v.steps (drop (start_size L) s)) gains) where
      -- what is added to each word is what the definition adds
      sums : (w : ℕ) → w < WORDS → word counts w + word gains w ≡ sum counts (steps_of L s) w
      sums w l =
          ap (λ (k : ℕ). word counts w + k) (g.words w l ∙ ap (λ (ss : List Step). gain ss w) steps_shown)

      fits_passes : Fits counts gains → any_passes WORDS 0 (sum counts (steps_of L s)) ≡ false
      fits_passes f = none_passes WORDS 0 (sum counts (steps_of L s)) (λ j l. omega (arith, f j l, sums j l))

      passes_fits : any_passes WORDS 0 (sum counts (steps_of L s)) ≡ false → Fits counts gains
      passes_fits e w l = omega (arith, all_below WORDS 0 (sum counts (steps_of L s)) e w (omega arith) l, sums w l)

-- ---- the four answers

module _ (L : Layout) (s counts : List ℕ) where
  abbrev pub Answers : ℕ → List ℕ → Type 0
  Answers n c = (n ≡ count_returns L s counts) × (c ≡ count_leaves L s counts)

  left : (n : ℕ) → n ≡ count_returns L s counts → (n ≡ DONE → ⊥) → Answers n counts
  unfolding count_leaves
  left n e z =
      let t : eqb (count_returns L s counts) DONE ≡ false = ne_eqb (count_returns L s counts) DONE (λ q. z (e ∙ q)) in
      (e, ap (λ (b : Bool). if b then spell_words WORDS 0 (sum counts (steps_of L s)) else counts) (sym t))

  pub bad_size : (length counts ≡ COUNTS_SIZE → ⊥) → Answers BAD_SIZE counts
  unfolding count_returns
  bad_size n = left BAD_SIZE (simp (ne_eqb (length counts) COUNTS_SIZE n)) (λ e. omega arith)

  module _ (size : length counts ≡ COUNTS_SIZE) (v : Report) (is : v ≡ report L s) where
    pub refused : (v.number ≡ DONE → ⊥) → Answers v.number counts
    unfolding count_returns
    refused n =
        let q : v.number ≡ (report L s).number = ap (λ (x : Report). x.number) is in
        left v.number (simp (eq-eqb (length counts) COUNTS_SIZE size, ne_eqb (report L s).number ACCEPTED (λ e. n (q ∙ e))) q) n

    module _ (ok : v.number ≡ DONE) where
      ok_report : (report L s).number ≡ ACCEPTED
      ok_report = sym (ap (λ (x : Report). x.number) is) ∙ ok

      pub full : any_passes WORDS 0 (sum counts (steps_of L s)) ≡ true → Answers FULL counts
      unfolding count_returns
      full e =
          left FULL
          (simp (eq-eqb (length counts) COUNTS_SIZE size, eq-eqb (report L s).number ACCEPTED ok_report, e))
          (λ z. omega arith)

      pub done : any_passes WORDS 0 (sum counts (steps_of L s)) ≡ false
          → Answers DONE (spell_words WORDS 0 (sum counts (steps_of L s)))
      unfolding count_returns count_leaves
      done e =
          let r : DONE ≡ count_returns L s counts =
          simp (eq-eqb (length counts) COUNTS_SIZE size, eq-eqb (report L s).number ACCEPTED ok_report, e) in (
            r,
            ap (λ (b : Bool). if b then spell_words WORDS 0 (sum counts (steps_of L s)) else counts)
                (sym (eq-eqb (count_returns L s counts) DONE (sym r))),
          )

-- ---- what the code found, and so answers

module _ (L : Layout) (LL : Lawful L) (s counts gains : List ℕ) (by : Bytes s) (size : length counts ≡ COUNTS_SIZE)
    (v : Report) (is : v ≡ report L s) (ok : v.number ≡ DONE)
    (g : Gains (shown_steps L v.steps (drop (start_size L) s)) gains) (t : Bool) (fits : (t ≡ true) ↔ Fits counts gains) where
  pub found_full : t ≡ false → Answers L s counts FULL counts
  found_full h = full L s counts size v is ok (go (any_passes WORDS 0 (sum counts (steps_of L s))) refl)
    where
      go : (u : Bool) → any_passes WORDS 0 (sum counts (steps_of L s)) ≡ u → u ≡ true
      go true e = refl
      go false e =
          never (sym h ∙ fits.1 (passes_fits L LL s by v is ok counts gains g e))

  pub found_done : t ≡ true → (c : List ℕ) → c ≡ spell_words WORDS 0 (λ (w : ℕ). word counts w + word gains w)
      → Answers L s counts DONE c
  found_done h c e =
      let f = fits.0 h in
      let d = done L s counts size v is ok (fits_passes L LL s by v is ok counts gains g f) in
      let q = same_words WORDS 0 (λ (w : ℕ). word counts w + word gains w) (sum counts (steps_of L s))
      (sums L LL s by v is ok counts gains g) in
      (d.0, e ∙ q ∙ d.1)
