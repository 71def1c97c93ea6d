-- The theorems of any lawful layout, each proved in the file that it cites, and those of both layouts.
use mathlib.Core.Bool.{Bool, true, false}
use mathlib.Core.List.{List}
use Prim.Native.Nat.{ℕ, ◌≤◌}
use native.Mathlib.Omega.{arith}
use Rattle.words.specs.Word.{Bytes}
use Rattle.records.specs.Layout.{Layout, Lawful, layout}
use Rattle.records.specs.Report.{report}
use Rattle.records.specs.Theorems.{Theorems}
use Rattle.records.proofs.Lawfuls.{lawful}
use Rattle.records.proofs.Accepts as accepts
use Rattle.records.proofs.Refusals as refusals
use Rattle.records.proofs.Changes as changes
use Rattle.records.proofs.Determined as determined
use Rattle.records.proofs.Checkers as checkers

pub theorems : (L : Layout) → Lawful L → Theorems L
theorems L l =
    record {
      accepts_exactly = refusals.accepts_exactly L l;
      says = refusals.says L l;
      published_once = determined.published_once L l;
      of_published = λ b es h few words.
          record {
            published_accepted = accepts.published_accepted L l b es h few words;
            more_refused = λ t. changes.more_refused L l b es t h few words;
            cut_refused = changes.cut_refused L l b es h few words;
            cut_falls = λ n. changes.cut_falls L l b es n h;
          };
      of_changed = λ b es e fs h few words.
          record {
            step_changed = changes.step_changed L l b es e fs h few words;
            answer_changed = changes.answer_changed L l b es e fs h few words;
            block_changed = changes.block_changed L l b es e fs h few words;
            word_changed = changes.word_changed L l b es e fs h few words;
          };
      meets_once = checkers.meets_once L l;
      meets_report = checkers.meets_report L l;
      not_refusing_all = checkers.not_refusing_all L l;
      not_accepting_all = checkers.not_accepting_all L l;
      not_ends_only = checkers.not_ends_only L l;
      not_first_only = checkers.not_first_only L l;
      not_blind = checkers.not_blind L l;
    }

pub theorems_of : (old : Bool) → Theorems (layout old)
theorems_of old = theorems (layout old) (lawful old)

-- the place of any report is at most 13,369,336, so that a word holds it
pub place_fits : (old : Bool) (s : List ℕ) → Bytes s → (report (layout old) s).place ≤ 13369336
place_fits true s by = omega (arith, ((theorems_of true).says s by).place_fits)
place_fits false s by = ((theorems_of false).says s by).place_fits
