-- What is proved of the traces of either layout, by what is proved of each: the head of its Start tells a string's layout (Heads.antt).
use Rattle.std.specs.Prelude.{if◌then◌else◌}
use mathlib.Core.Path.{◌≡◌, refl, sym, ap, ◌∙◌, subst}
use mathlib.Core.Logic.{◌⊎◌, inl, inr, ◌↔◌}
use mathlib.Core.Bool.{Bool, true, false, not}
use mathlib.Core.List.{List, [], ◌∷◌, ◌++◌}
use Prim.Native.Nat.{ℕ, suc, ◌+◌, ◌-◌, ◌*◌, ◌<◌, ◌≤◌}
use native.Mathlib.Omega.{arith}
use lib.ListN.{length, take, drop, replicate, length-take, length-replicate}
use lib.Dec.{eqb, leb, ltb}
use Rattle.words.specs.Word.{half, spelt, Bytes}
use Rattle.words.proofs.Spell.{bytes_none, bytes_zeros}
use Rattle.rules.specs.declared.event.Event.{Event}
use Rattle.rules.specs.declared.verdict.Answer.{Answer}
use Rattle.records.specs.declared.report.Report.{Report}
use Rattle.records.specs.Layout.{Layout, old_layout, new_layout, layout, is_old, layout_of}
use Rattle.records.specs.Layout.{head_size, start_size, step_size, end_size, most_steps, place_of, kind_at, count_at}
use Rattle.records.specs.Published.{AreEvents, Published, published, run}
use Rattle.records.specs.Published.{start_record, step_showing, step_record, step_records, end_record}
use Rattle.records.specs.Report.{report, report_from, head_number, step_number, refused, unless, ◌else◌, same_bytes, event_of}
use Rattle.records.specs.Report.{ACCEPTED, BAD_RECORD, WRONG_STEP}
use Rattle.records.specs.Claims.{Misjudged, judged_to, due_size, changed, Meets, ChangedAt, InStep}
use Rattle.records.specs.Claims.{LeavesUnread}
use Rattle.records.specs.Theorems.{OfPublished, OfChanged}
use Rattle.records.specs.Either.{report_of, PublishedInOne, MeetsBoth, OfBoth}
use Rattle.records.proofs.Faults.{below, differ, head_bad}
use Rattle.records.proofs.Heads.{old_by, cut_old, start_tells, published_tells, few_short}
use Rattle.records.proofs.Begun.{old_front}
use Rattle.records.proofs.Records.{length-published}
use Rattle.records.proofs.Lawfuls.{lawful}
use Rattle.records.proofs.Accepts.{report_begun}
use Rattle.records.proofs.Checkers.{bytes_published}
use Rattle.records.proofs.Theorems.{theorems_of}

-- the report on a string that has this layout is this layout's
pub by_layout : (old : Bool) (s : List ℕ) → is_old s ≡ old → report_of s ≡ report (layout old) s
by_layout old s e = ap (λ o. report (layout o) s) e

-- of the front of a string it is that of the whole string's layout
pub cut_same : (s : List ℕ) (l : ℕ) → report_of (take l s) ≡ report (layout_of s) (take l s)
cut_same s l = go (below l head_size)
  where
    go : (l < head_size) ⊎ (head_size ≤ l) → report_of (take l s) ≡ report (layout_of s) (take l s)
    go (inl f) =
        let g : length (take l s) < head_size = omega (arith, length-take l s) in
        few_short (layout_of (take l s)) (take l s) g ∙ sym (few_short (layout_of s) (take l s) g)
    go (inr f) = by_layout (is_old s) (take l s) (cut_old s l f)

-- ---- accepted exactly

pub accepts_exactly : (s : List ℕ) → Bytes s → ((report_of s).number ≡ ACCEPTED) ↔ PublishedInOne s
accepts_exactly s by =
    let exact = (theorems_of (is_old s)).accepts_exactly s by in (
      (λ z. record { old = is_old s; of = exact.0 z }),
      (λ p. exact.1 (subst (λ o. Published (layout o) s) (sym (published_tells p.old s p.of)) p.of)),
    )

-- so a report that is the right one is exact
pub exact : (s : List ℕ) → Bytes s → (v : Report) → v ≡ report_of s → (v ≡ report_of s) × ((v.number ≡ ACCEPTED) ↔ PublishedInOne s)
exact s by v e =
    let n = ap (λ (w : Report). w.number) e in
    (e, ((λ z. (accepts_exactly s by).0 (sym n ∙ z)), (λ p. n ∙ (accepts_exactly s by).1 p)))

-- ---- 9, 10 and 11

-- what was judged has a head
judged_head : (s : List ℕ) (v : Report) → head_size ≤ judged_to (layout_of s) s v
judged_head s v =
    omega (arith, if_least (eqb v.number BAD_RECORD) head_size (due_size (layout_of s) s v) (omega arith) due_least)
  where
    if_least : (u : Bool) (m n : ℕ) → head_size ≤ m → head_size ≤ n → head_size ≤ (if u then m else n)
    if_least true m n h k = h
    if_least false m n h k = k

    due_least : head_size ≤ due_size (layout_of s) s v
    due_least =
        if_least (eqb v.place 0) (start_size (layout_of s)) _ (omega arith)
        (if_least (ltb v.steps (spelt s count_at)) (step_size (layout_of s)) end_size (omega arith) (omega arith))

no_trace_begins : (s : List ℕ) → Bytes s → Misjudged (report_of s) → (t : List ℕ)
    → PublishedInOne (take (judged_to (layout_of s) s (report_of s)) s ++ t)
    → ⊥
no_trace_begins s by m t p =
    let says = (theorems_of (is_old s)).says s by in
    let to = judged_to (layout_of s) s (report_of s) in
    let long : head_size ≤ length (take to s) =
    omega (arith, length-take to s, judged_head s (report_of s), says.judged_within m) in
    let same : p.old ≡ is_old s =
    sym (published_tells p.old (take to s ++ t) p.of)
    ∙ old_front (take to s) t long
    ∙ cut_old s to (judged_head s (report_of s)) in
    says.no_trace_begins m t (subst (λ o. Published (layout o) (take to s ++ t)) same p.of)

-- ---- a string determines its layout, its start block and its events

published_once : (s : List ℕ) (p q : PublishedInOne s)
    → (p.old ≡ q.old) × (p.of.start ≡ q.of.start) × (p.of.events ≡ q.of.events)
published_once s p q = go p.old q.old p.of q.of (sym (published_tells _ s p.of) ∙ published_tells _ s q.of)
  where
    go : (o u : Bool) (x : Published (layout o) s) (y : Published (layout u) s) → o ≡ u
        → (o ≡ u) × (x.start ≡ y.start) × (x.events ≡ y.events)
    go true true x y e = let w = (theorems_of true).published_once s x y in (e, w.0, w.1)
    go false false x y e = let w = (theorems_of false).published_once s x y in (e, w.0, w.1)
    go true false x y e = absurd (differ (sym e))
    go false true x y e = absurd (differ e)

-- ---- published, with more, cut, changed

module _ (old : Bool) (b : List ℕ) (h : length b ≡ (layout old).size) where
  abbrev L : Layout
  L = layout old

  published_has : (es : List Event) → is_old (published L b es) ≡ old
  unfolding published
  published_has es = start_tells old (length es) b (step_records L b es ++ end_record (length es)) h

  of_published : (es : List Event) → length es ≤ most_steps → AreEvents es → OfPublished report_of L b es
  of_published es few words =
      let s = published L b es in
      let of = (theorems_of old).of_published b es h few words in
      let long = length-published L (lawful old) b es h in
      let has = published_has es in
      record {
        published_accepted = by_layout old s has ∙ of.published_accepted;
        more_refused = λ t l. by_layout old (s ++ t) (old_front s t (omega (arith, long)) ∙ has) ∙ of.more_refused t l;
        cut_refused = λ l place k at.
            cut_same s l ∙ ap (λ (o : Bool). report (layout o) (take l s)) has ∙ of.cut_refused l place k at;
        cut_falls = of.cut_falls;
      }

  changed_has : (es : List Event) (e : Event) (fs : List Event) (x : Answer) (c : List ℕ) → is_old (changed L b es e x c fs) ≡ old
  unfolding changed
  changed_has es e fs x c = start_tells old _ b _ h

  of_changed : (es : List Event) (e : Event) (fs : List Event) → length (es ++ e ∷ fs) ≤ most_steps → AreEvents (es ++ e ∷ fs)
      → OfChanged report_of L b es e fs
  of_changed es e fs few words =
      let of = (theorems_of old).of_changed b es e fs h few words in
      let has : (x : Answer) (c : List ℕ) → report_of (changed L b es e x c fs) ≡ report L (changed L b es e x c fs) =
      λ x c. by_layout old (changed L b es e x c fs) (changed_has es e fs x c) in
      record {
        step_changed = λ x c l d. has x c ∙ of.step_changed x c l d;
        answer_changed = λ by x w d. has x _ ∙ of.answer_changed by x w d;
        block_changed = λ x c l d. has x c ∙ of.block_changed x c l d;
        word_changed = λ p w l k d. has _ _ ∙ of.word_changed p w l k d;
      }

-- ---- a trace that mixes the layouts

-- the head of a Step of the other layout is not the one due
other_head : (old : Bool) (e : Event) (x : Answer) (c t : List ℕ)
    → head_number (step_size (layout old)) (layout old).step_kind (step_showing (layout (not old)) e x c ++ t) ≡ BAD_RECORD
unfolding step_showing half
other_head true e x c t = head_bad 200 2 (step_showing new_layout e x c ++ t) (omega arith) (λ len kind. omega (arith, len))
other_head false e x c t = head_bad 204 5 (step_showing old_layout e x c ++ t) (omega arith) (λ len kind. omega (arith, len))

mixed_refused : (old : Bool) (n : ℕ) (b : List ℕ) (es : List Event) → length b ≡ (layout old).size → length es < n → n ≤ most_steps
    → AreEvents es
    → (e : Event) (x : Answer) (c t : List ℕ)
    → report_of (start_record (layout old) n b ++ (step_records (layout old) b es ++ (step_showing (layout (not old)) e x c ++ t)))
    ≡ record { number = BAD_RECORD; place = place_of (layout old) (length es); steps = length es }
unfolding report_from step_number
mixed_refused old n b es h l few ok e x c t =
    let M = layout old in
    let k : ℕ = length es in
    let r : List ℕ = step_showing (layout (not old)) e x c ++ t in
    let due : n - k ≡ suc (n - k - 1) = omega arith in
    by_layout old _ (start_tells old n b (step_records M b es ++ r) h)
    ∙ report_begun M (lawful old) n b es r (omega arith) few h ok
    ∙ ap (λ (m : ℕ). report_from M m k (run M b es) r) due
    ∙ ap (λ (f : ℕ). refused (f else unless (same_bytes (take (step_size M) r) (step_record M (run M b es) (event_of r))) WRONG_STEP)
    (place_of M k) k (report_from M (n - k - 1) (k + 1) (M.after (run M b es) (event_of r)) (drop (step_size M) r)))
    (other_head old e x c t)

-- ---- checkers

-- one for both layouts, on the strings of one; on others it is made right
abbrev within : Bool → (List ℕ → Report) → List ℕ → Report
within true f s = if is_old s then f s else report (layout true) s
within false f s = if is_old s then report (layout false) s else f s

within_is : (old : Bool) (f : List ℕ → Report) (s : List ℕ) → is_old s ≡ old → within old f s ≡ f s
within_is true f s e = rw e refl
within_is false f s e = rw e refl

within_meets : (old : Bool) (f : List ℕ → Report) → MeetsBoth f → Meets (layout old) (within old f)
within_meets old f m =
    record {
      reports = right;
      exact = λ s by.
          let n = ap (λ (v : Report). v.number) (right s by) in
          let exact = (theorems_of old).accepts_exactly s by in
          ((λ z. exact.0 (sym n ∙ z)), (λ p. n ∙ exact.1 p));
    }
  where
    go : (o : Bool) (s : List ℕ) → Bytes s → (u : Bool) → is_old s ≡ u → within o f s ≡ report (layout o) s
    go true s by true e = within_is true f s e ∙ m.reports s by ∙ by_layout true s e
    go true s by false e = rw e refl
    go false s by true e = rw e refl
    go false s by false e = within_is false f s e ∙ m.reports s by ∙ by_layout false s e

    right : (s : List ℕ) → Bytes s → within old f s ≡ report (layout old) s
    right s by = go old s by (is_old s) refl

-- bytes changed in Steps only leave the layout
steps_leave : (places : ℕ → Type 0) (s t : List ℕ) → ((i : ℕ) → i < head_size → places i → ⊥) → ChangedAt places s t
    → is_old t ≡ is_old s
unfolding half
steps_leave places s t behind c =
    let kind : half t kind_at ≡ half s kind_at =
    (λ i. sym (c.same kind_at (behind kind_at (omega arith))) i
    + 256 * sym (c.same (kind_at + 1) (behind (kind_at + 1) (omega arith))) i) in
    old_by t s (ap (leb head_size) (sym c.size)) kind

unread : (old : Bool) (f : List ℕ → Report) (places : List ℕ → ℕ → Type 0)
    → ((s : List ℕ) (i : ℕ) → i < head_size → places s i → ⊥)
    → LeavesUnread (layout old) places f
    → LeavesUnread (layout old) places (within old f)
unread old f places behind h s t p by c =
    let has = published_tells old s p in
    ap (λ (v : Report). v.number) (within_is old f s has)
    ∙ h s t p by c
    ∙ sym (ap (λ (v : Report). v.number) (within_is old f t (steps_leave (places s) s t (behind s) c ∙ has)))

-- no Step lies in the head of the Start
not_in_head : (old : Bool) (s : List ℕ) (i : ℕ) → i < head_size → InStep (layout old) s i → ⊥
not_in_head old s i h w = omega (arith, w.from)

-- a trace of no event, from a block of zeros
abbrev nothing_done : (M : Layout) → Published M (published M (replicate M.size 0) [])
nothing_done M =
    record {
      start = replicate M.size 0;
      events = [];
      size = length-replicate M.size 0;
      bytes = bytes_zeros M.size;
      few = omega arith;
      words = tt;
      is = refl;
    }

pub both : OfBoth
both =
    record {
      accepts_exactly = accepts_exactly;
      says = λ s by. (theorems_of (is_old s)).says s by;
      no_trace_begins = no_trace_begins;
      its_layout = published_tells;
      published_once = published_once;
      of_published = λ old b es h. of_published old b h es;
      of_changed = λ old b es e fs h. of_changed old b h es e fs;
      mixed_refused = mixed_refused;
      meets_once = λ f g m k s by. m.reports s by ∙ sym (k.reports s by);
      meets_report = record { reports = λ s by. refl; exact = accepts_exactly };
      not_refusing_all = λ old f r m.
          let p = nothing_done (layout old) in
          let by = bytes_published (layout old) (lawful old) p.start [] p.size p.bytes in
          r (published (layout old) p.start []) p ((m.exact _ by).1 (record { old = old; of = p }));
      not_accepting_all = λ f h m.
          let p = (m.exact [] bytes_none).0 (h [] bytes_none) in
          let long = length-published (layout p.old) (lawful p.old) p.of.start p.of.events p.of.size in
          omega (arith, long, ap length p.of.is);
      not_ends_only = λ old f r m.
          (theorems_of old).not_ends_only (within old f) (unread old f _ (not_in_head old) r) (within_meets old f m);
      not_first_only = λ old f r m.
          (theorems_of old).not_first_only (within old f) (unread old f _ (λ s i h w. not_in_head old s i h w.at) r)
          (within_meets old f m);
    }
