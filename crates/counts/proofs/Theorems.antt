-- The theorems, each proved here or in the file that it cites.
use Rattle.std.specs.Prelude.{if◌then◌else◌}
use mathlib.Core.Path.{◌≡◌, refl, ap, ◌∙◌}
use mathlib.Core.Bool.{Bool, true, false, not}
use mathlib.Core.List.{List}
use Prim.Native.Nat.{ℕ, ◌<◌}
use native.Mathlib.Omega.{arith}
use native.Mathlib.Nat.{zero-add}
use lib.ListN.{length}
use lib.Dec.{eqb}
use borrow.Author.Tests.{eq-eqb, ne_eqb, eqb-true, eqb-false}
use Rattle.words.specs.Word.{word}
use Rattle.state.specs.Number.{DONE, BAD_SIZE, FULL}
use Rattle.records.specs.Layout.{Layout, layout, is_old, layout_of}
use Rattle.records.specs.Published.{Published}
use Rattle.records.specs.Report.{report, ACCEPTED}
use Rattle.records.specs.Either.{report_of}
use Rattle.records.specs.Claims.{start_of, events_of}
use Rattle.records.proofs.Determined.{start_read, events_read}
use Rattle.records.proofs.Heads.{published_tells}
use Rattle.records.proofs.Lawfuls.{lawful}
use Rattle.counts.specs.Counts.{steps_from, steps_of, sum, spell_words, any_passes, count_returns, count_leaves, WORDS, COUNTS_SIZE}
use Rattle.counts.specs.Theorems.{Theorems}
use Rattle.counts.proofs.Adding.{all_below, spelt_word, length_spelt}
use Rattle.counts.proofs.Answered.{answers_add_up, codes_add_up, targets_add_up, taken_add_up}
use Rattle.counts.proofs.Reading.{steps_read}

module _ (L : Layout) (s c : List ℕ) where
  abbrev sums : ℕ → ℕ
  sums = sum c (steps_of L s)

  -- what DONE says: the trace is accepted, and no sum passes the largest word
  pub record Done : Type 0 where
    pub accepted : (report L s).number ≡ ACCEPTED
    pub fits : any_passes WORDS 0 sums ≡ false

  done : count_returns L s c ≡ DONE → Done
  unfolding count_returns
  done = go (eqb (length c) COUNTS_SIZE) (eqb (report L s).number ACCEPTED) refl (any_passes WORDS 0 sums) refl
    where
      go : (t u : Bool) → eqb (report L s).number ACCEPTED ≡ u → (v : Bool) → any_passes WORDS 0 sums ≡ v
          → (if not t then BAD_SIZE else if not u then (report L s).number else if v then FULL else DONE) ≡ DONE
          → Done
      go false u p v q h = absurd (omega arith)
      go true false p v q h = record { accepted = h; fits = absurd (eqb-false (report L s).number ACCEPTED p h) }
      go true true p true q h = absurd (omega arith)
      go true true p false q h = record { accepted = eqb-true (report L s).number ACCEPTED p; fits = q }

  left : count_returns L s c ≡ DONE → count_leaves L s c ≡ spell_words WORDS 0 sums
  unfolding count_leaves
  left h =
      ap (λ (b : Bool). if b then spell_words WORDS 0 sums else c) (eq-eqb (count_returns L s c) DONE h)

  kept : (count_returns L s c ≡ DONE → ⊥) → count_leaves L s c ≡ c
  unfolding count_leaves
  kept n =
      ap (λ (b : Bool). if b then spell_words WORDS 0 sums else c) (ne_eqb (count_returns L s c) DONE n)

  grown : count_returns L s c ≡ DONE → (w : ℕ) → w < WORDS → word (count_leaves L s c) w ≡ sums w
  grown h w l =
      ap (λ (r : List ℕ). word r w) (left h)
      ∙ spelt_word WORDS 0 sums (λ j k. all_below WORDS 0 sums (done h).fits j (omega arith) k) w l
      ∙ ap sums (zero-add w)

-- a published trace is read in the layout that it is published in, and gives its start block and its events
steps_counted : (old : Bool) (s : List ℕ) (p : Published (layout old) s)
    → steps_of (layout_of s) s ≡ steps_from (layout old) p.start p.events
steps_counted old s p =
    ap (λ (o : Bool). steps_of (layout o) s) (published_tells old s p)
    ∙ (λ i. steps_from (layout old) (start_read (layout old) (lawful old) s p i) (events_read (layout old) (lawful old) s p i))

pub theorems : Theorems
theorems =
    record {
      of_steps = λ old b es.
          record {
            by_answer = answers_add_up old b es;
            by_code = codes_add_up old b es;
            by_target = targets_add_up old b es;
            by_taken = taken_add_up old b es;
          };
      steps_counted = steps_counted;
      steps_gained = λ s by ok.
          answers_add_up (is_old s) (start_of (layout_of s) s) (events_of (layout_of s) s)
          ∙ steps_read (layout_of s) (lawful (is_old s)) s by (report_of s) refl ok;
      counting = λ s c.
          record {
            grown = grown (layout_of s) s c;
            size = λ h. ap length (left (layout_of s) s c h) ∙ length_spelt WORDS 0 (sums (layout_of s) s c);
            kept = kept (layout_of s) s c;
            refused = λ n h. n (done (layout_of s) s c h).accepted;
          };
    }
