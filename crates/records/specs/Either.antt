-- Demand 3 as document 02, No. 11, restates it: "a string is accepted exactly when it is the published trace, in the old layout or the
-- new, of some start block of that layout and some list of at most 65,535 events, made by the rules that hold for that layout, and
-- nothing more".
use Rattle.std.specs.Prelude.{◌≡◌, ◌↔◌, Bool, not, List, ◌∷◌, ◌++◌, ℕ, ◌<◌, ◌≤◌, length, take}
use Rattle.words.specs.Word.{Bytes}
use Rattle.rules.specs.declared.event.Event.{Event}
use Rattle.rules.specs.declared.verdict.Answer.{Answer}
use Rattle.records.specs.declared.report.Report.{Report}
use Rattle.records.specs.Layout.{Layout, layout, is_old, layout_of, most_steps, place_of}
use Rattle.records.specs.Published.{AreEvents, start_record, step_showing, step_records, Published}
use Rattle.records.specs.Report.{report, ACCEPTED, BAD_RECORD}
use Rattle.records.specs.Claims.{Says, Misjudged, judged_to, ReadsStartAndEndOnly, WalksTheOthers}
use Rattle.records.specs.Theorems.{OfPublished, OfChanged}

-- the report goes by the kind of the Start
abbrev pub report_of : List ℕ → Report
report_of s = report (layout_of s) s

-- a published trace of one of the two layouts
pub record PublishedInOne (s : List ℕ) : Type 0 where
  pub old : Bool
  pub of : Published (layout old) s

-- what the contract of the checker asks of a function from byte strings to reports
pub record MeetsBoth (f : List ℕ → Report) : Type 0 where
  pub reports : (s : List ℕ) → Bytes s → f s ≡ report_of s
  pub exact : (s : List ℕ) → Bytes s → ((f s).number ≡ ACCEPTED) ↔ PublishedInOne s

-- "refuses all" the traces of a layout, "accepts all"
abbrev pub RefusesTraces : Layout → (List ℕ → Report) → Type 0
RefusesTraces L f = (s : List ℕ) → Published L s → (f s).number ≡ ACCEPTED → ⊥

abbrev pub AcceptsAll : (List ℕ → Report) → Type 0
AcceptsAll f = (s : List ℕ) → Bytes s → (f s).number ≡ ACCEPTED

pub record OfBoth : Type 0 where
  -- ---- any bytes

  -- accepted exactly the published traces, of either layout
  pub accepts_exactly : (s : List ℕ) → Bytes s → ((report_of s).number ≡ ACCEPTED) ↔ PublishedInOne s
  -- what each number, the place and Steps say, in the layout of the Start
  pub says : (s : List ℕ) → Bytes s → Says (layout_of s) s (report_of s)
  -- 9, 10 and 11: no published trace of either layout begins with the bytes that were judged
  pub no_trace_begins : (s : List ℕ) → Bytes s → Misjudged (report_of s) → (t : List ℕ)
      → PublishedInOne (take (judged_to (layout_of s) s (report_of s)) s ++ t)
      → ⊥
  -- ---- a published trace, of either layout

  -- a string determines its layout, its start block and its events
  pub its_layout : (old : Bool) (s : List ℕ) → Published (layout old) s → is_old s ≡ old
  pub published_once : (s : List ℕ) (p q : PublishedInOne s)
      → (p.old ≡ q.old) × (p.of.start ≡ q.of.start) × (p.of.events ≡ q.of.events)
  -- accepted; with more, cut, or with a Step changed it is refused, with the number and at the place that Theorems.antt has
  pub of_published : (old : Bool) (b : List ℕ) (es : List Event) → length b ≡ (layout old).size → length es ≤ most_steps
      → AreEvents es
      → OfPublished report_of (layout old) b es
  pub of_changed : (old : Bool) (b : List ℕ) (es : List Event) (e : Event) (fs : List Event) → length b ≡ (layout old).size
      → length (es ++ e ∷ fs) ≤ most_steps
      → AreEvents (es ++ e ∷ fs)
      → OfChanged report_of (layout old) b es e fs
  -- "a trace that mixes them is BAD_RECORD at the record that is not due": behind a Start of one layout and right Steps, a Step of the
  -- other, whatever it shows and whatever follows
  pub mixed_refused : (old : Bool) (n : ℕ) (b : List ℕ) (es : List Event) → length b ≡ (layout old).size → length es < n
      → n ≤ most_steps
      → AreEvents es
      → (e : Event) (x : Answer) (c t : List ℕ)
      → report_of (start_record (layout old) n b ++ (step_records (layout old) b es ++ (step_showing (layout (not old)) e x c ++ t)))
      ≡ record { number = BAD_RECORD; place = place_of (layout old) (length es); steps = length es }
  -- ---- checkers: two that meet the contract agree, and the report is what they answer; none that meets it

  pub meets_once : (f g : List ℕ → Report) → MeetsBoth f → MeetsBoth g → (s : List ℕ) → Bytes s → f s ≡ g s
  pub meets_report : MeetsBoth report_of
  -- refuses all traces of a layout, or accepts all bytes
  pub not_refusing_all : (old : Bool) (f : List ℕ → Report) → RefusesTraces (layout old) f → MeetsBoth f → ⊥
  pub not_accepting_all : (f : List ℕ → Report) → AcceptsAll f → MeetsBoth f → ⊥
  -- reads Start and End only, or verifies the first Step and merely walks the others, in a layout
  pub not_ends_only : (old : Bool) (f : List ℕ → Report) → ReadsStartAndEndOnly (layout old) f → MeetsBoth f → ⊥
  pub not_first_only : (old : Bool) (f : List ℕ → Report) → WalksTheOthers (layout old) f → MeetsBoth f → ⊥
