-- Demand 3: what is proved of the traces of a layout, whichever lawful one it is; Either.antt has what is proved of both.
use Rattle.std.specs.Prelude.{◌≡◌, ◌↔◌, List, ◌∷◌, ◌++◌, ℕ, ◌+◌, ◌*◌, ◌<◌, ◌≤◌, ◌^◌, length, take}
use Rattle.words.specs.Word.{word, put, Bytes}
use Rattle.rules.specs.declared.event.Event.{Event}
use Rattle.rules.specs.declared.verdict.Answer.{Answer}
use Rattle.records.specs.declared.report.Report.{Report}
use Rattle.records.specs.Layout.{Layout, most_steps, place_of}
use Rattle.records.specs.Published.{IsAnswer, AreEvents, step_showing, step_record, run, published, Published}
use Rattle.records.specs.Report.{report, ACCEPTED, SHORT, WRONG_STEP, TRAILING}
use Rattle.records.specs.Claims.{Says, CutAt, Falls, changed, Meets, RefusesAll, AcceptsAll, ReadsStartAndEndOnly, WalksTheOthers}

-- of the published trace of the events es from the block b, R being the report on any bytes
pub record OfPublished (R : List ℕ → Report) (L : Layout) (b : List ℕ) (es : List Event) : Type 0 where
  -- it is accepted
  pub published_accepted : R (published L b es)
      ≡ record { number = ACCEPTED; place = length (published L b es); steps = length es }
  -- with any bytes more it is refused with 12 at its old length
  pub more_refused : (t : List ℕ) → 0 < length t
      → R (published L b es ++ t)
      ≡ record { number = TRAILING; place = length (published L b es); steps = length es }
  -- cut anywhere it is refused with 8 at the record that the cut falls in or that is missing; and each cut falls in one
  pub cut_refused : (l place k : ℕ) → CutAt L (length es) l place k
      → R (take l (published L b es)) ≡ record { number = SHORT; place = place; steps = k }
  pub cut_falls : (l : ℕ) → l < length (published L b es) → Falls L (length es) l

-- of that of the events es, e and fs with one Step changed, that of e, to show another answer x or another block c: it is
-- refused with 11 at that Step's first byte, Steps being its index
pub record OfChanged (R : List ℕ → Report) (L : Layout) (b : List ℕ) (es : List Event) (e : Event) (fs : List Event) : Type 0 where
  -- anything of it
  pub step_changed : (x : Answer) (c : List ℕ) → length c ≡ L.size
      → (step_showing L e x c ≡ step_record L (run L b es) e → ⊥)
      → R (changed L b es e x c fs)
      ≡ record { number = WRONG_STEP; place = place_of L (length es); steps = length es }
  -- its answer or its value
  pub answer_changed : Bytes b → (x : Answer) → IsAnswer x → (x ≡ L.answer (run L b es) e → ⊥)
      → R (changed L b es e x (L.after (run L b es) e) fs)
      ≡ record { number = WRONG_STEP; place = place_of L (length es); steps = length es }
  -- its after-state, in any byte
  pub block_changed : (x : Answer) (c : List ℕ) → length c ≡ L.size → (c ≡ L.after (run L b es) e → ⊥)
      → R (changed L b es e x c fs)
      ≡ record { number = WRONG_STEP; place = place_of L (length es); steps = length es }
  -- one word of it, a saved word among them
  pub word_changed : (p w : ℕ) → 4 * p + 4 ≤ L.size → w < 2 ^ 32 → (w ≡ word (L.after (run L b es) e) p → ⊥)
      → R (changed L b es e (L.answer (run L b es) e) (put (L.after (run L b es) e) p w) fs)
      ≡ record { number = WRONG_STEP; place = place_of L (length es); steps = length es }

pub record Theorems (L : Layout) : Type 0 where
  -- ---- any string of bytes

  -- number 0 exactly when a start block and at most 65,535 events publish the string and nothing more
  pub accepts_exactly : (s : List ℕ) → Bytes s → ((report L s).number ≡ ACCEPTED) ↔ Published L s
  -- what each number, the place and Steps say
  pub says : (s : List ℕ) → Bytes s → Says L s (report L s)
  -- ---- a published trace

  -- a string determines its start block and its events
  pub published_once : (s : List ℕ) (p q : Published L s) → (p.start ≡ q.start) × (p.events ≡ q.events)
  pub of_published : (b : List ℕ) (es : List Event) → length b ≡ L.size → length es ≤ most_steps → AreEvents es
      → OfPublished (report L) L b es
  pub of_changed : (b : List ℕ) (es : List Event) (e : Event) (fs : List Event) → length b ≡ L.size
      → length (es ++ e ∷ fs) ≤ most_steps
      → AreEvents (es ++ e ∷ fs)
      → OfChanged (report L) L b es e fs
  -- ---- checkers

  -- two that meet the statement agree, and the report is what they answer
  pub meets_once : (f g : List ℕ → Report) → Meets L f → Meets L g → (s : List ℕ) → Bytes s → f s ≡ g s
  pub meets_report : Meets L (report L)
  -- one that refuses all does not meet it, nor one that accepts all
  pub not_refusing_all : (f : List ℕ → Report) → RefusesAll L f → Meets L f → ⊥
  pub not_accepting_all : (f : List ℕ → Report) → AcceptsAll L f → Meets L f → ⊥
  -- nor one that reads Start and End only, nor one that verifies the first Step and merely walks the others
  pub not_ends_only : (f : List ℕ → Report) → ReadsStartAndEndOnly L f → Meets L f → ⊥
  pub not_first_only : (f : List ℕ → Report) → WalksTheOthers L f → Meets L f → ⊥
  -- nor one that is blind to a Step, whichever it is: some published trace keeps its number where that Step shows anything
  -- but what the rules give
  pub not_blind : (b : List ℕ) (es : List Event) (e : Event) (fs : List Event) → length b ≡ L.size → Bytes b
      → length (es ++ e ∷ fs) ≤ most_steps
      → AreEvents (es ++ e ∷ fs)
      → (f : List ℕ → Report) (x : Answer) (c : List ℕ)
      → length c ≡ L.size
      → Bytes c
      → (step_showing L e x c ≡ step_record L (run L b es) e → ⊥)
      → (f (published L b (es ++ e ∷ fs))).number ≡ (f (changed L b es e x c fs)).number
      → Meets L f
      → ⊥
