-- A published trace determines its start block and its events: they are what is read off its records.
use mathlib.Core.Path.{◌≡◌, refl, sym, ap, ◌∙◌}
use mathlib.Core.List.{List, [], ◌∷◌, ◌++◌, append_assoc}
use Prim.Native.Nat.{ℕ, suc}
use native.Mathlib.Omega.{arith}
use lib.ListN.{length, drop}
use Rattle.words.specs.Word.{spelt}
use Rattle.rules.specs.declared.event.Event.{Event}
use Rattle.records.specs.Layout.{Layout, Lawful, start_size, count_at}
use Rattle.records.specs.Published.{AreEvents, end_record, step_record, step_records, published, Published}
use Rattle.records.specs.Claims.{start_of, events_from, events_of}
use Rattle.records.proofs.Records.{start_count, start_block, start_rest, step_event, step_rest}

module _ (L : Layout) (LL : Lawful L) where
  pub events_back : (es : List Event) (b t : List ℕ) → length b ≡ L.size → AreEvents es
      → events_from L (length es) (step_records L b es ++ t) ≡ es
  unfolding events_from step_records
  events_back [] b t h ok = refl
  events_back (e ∷ es) b t h ok =
      let u : List ℕ = step_records L (L.after b e) es ++ t in
      let l = LL.length_after b e h in
      ap (events_from L (suc (length es))) (append_assoc (step_record L b e) (step_records L (L.after b e) es) t)
      ∙ (λ i. step_event L LL e (L.answer b e) (L.after b e) l u ok.0 i ∷ events_from L (length es)
      (step_rest L LL e (L.answer b e) (L.after b e) l u i))
      ∙ ap (λ (l : List Event). e ∷ l) (events_back es (L.after b e) t l ok.1)

  module _ (s : List ℕ) (p : Published L s) where
    -- the Start counts the events
    pub count_read : spelt s count_at ≡ length p.events
    unfolding published
    count_read =
        ap (λ (l : List ℕ). spelt l count_at) p.is
        ∙ start_count L LL (length p.events) p.start
        (step_records L p.start p.events ++ end_record (length p.events)) p.size (omega (arith, p.few))

    pub start_read : start_of L s ≡ p.start
    unfolding published
    start_read =
        ap (start_of L) p.is
        ∙ start_block L LL (length p.events) p.start
        (step_records L p.start p.events ++ end_record (length p.events)) p.size

    pub events_read : events_of L s ≡ p.events
    unfolding published
    events_read =
        let t : List ℕ = step_records L p.start p.events ++ end_record (length p.events) in
        let rest = ap (drop (start_size L)) p.is ∙ start_rest L LL (length p.events) p.start t p.size in
        (λ i. events_from L (count_read i) (rest i))
        ∙ events_back p.events p.start (end_record (length p.events)) p.size p.words

  -- so two readings of one trace are the same
  pub published_once : (s : List ℕ) (p q : Published L s) → (p.start ≡ q.start) × (p.events ≡ q.events)
  published_once s p q =
      (sym (start_read s p) ∙ start_read s q, sym (events_read s p) ∙ events_read s q)
