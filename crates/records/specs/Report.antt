-- What the checker answers of a byte string (document 01, "The trace"): a number, the place, and the Steps found right
-- before it.
--
-- Record by record, in the order of document 01: the first fault of a record is its number; the place is the record's
-- first byte. Where no record has a fault and nothing is left, the number is 0, the place is the length and Steps is n.
use Rattle.std.specs.Prelude.{Bool, true, false, ◌&&◌, List, [], ◌∷◌, ℕ, zero, suc, ◌+◌, length, take, drop, eqb, leb}
use Rattle.words.specs.Word.{half, spelt}
use Rattle.state.specs.Number.{DONE}
use Rattle.rules.specs.declared.event.Event.{Event}
use Rattle.records.specs.declared.report.Report.{Report}
use Rattle.records.specs.Layout.{Layout, head_size, start_size, step_size, end_size, end_kind, most_steps, place_of, length_at}
use Rattle.records.specs.Layout.{kind_at, count_at, start_block_at, code_at, a_at, b_at}
use Rattle.records.specs.Published.{step_record}
pub use Rattle.state.specs.Number.{SHORT, BAD_RECORD, BAD_COUNT, WRONG_STEP, TRAILING}

-- ---- the first fault wins

-- the number of a record, and of a trace, without a fault
abbrev pub ACCEPTED : ℕ
ACCEPTED = DONE

-- this fault, unless the test holds
abbrev pub unless : Bool → ℕ → ℕ
unless true fault = ACCEPTED
unless false fault = fault

-- the first fault, or where there is none the second
abbrev pub ◌else◌ : ℕ → ℕ → ℕ
◌else◌ zero m = m
◌else◌ (suc n) m = suc n

infixr 60 ◌else◌
-- refused with this fault, at this place, k Steps being right; or where there is no fault, what is said of the rest
abbrev pub refused : ℕ → ℕ → ℕ → Report → Report
refused zero place k rest = rest
refused (suc fault) place k rest = record { number = suc fault; place = place; steps = k }

-- the same bytes?
abbrev pub same_bytes : List ℕ → List ℕ → Bool
same_bytes [] [] = true
same_bytes [] (y ∷ ys) = false
same_bytes (x ∷ xs) [] = false
same_bytes (x ∷ xs) (y ∷ ys) = eqb x y && same_bytes xs ys

-- ---- each record, r being what is left of the string from its first byte on

-- the event that a Step names
abbrev pub event_of : List ℕ → Event
event_of r = record { code = spelt r code_at; a = spelt r a_at; b = spelt r b_at }

-- 8 SHORT, under 4 bytes left; 9 BAD-RECORD, length or kind not the one due; 8 SHORT, body cut
unfoldable pub head_number : ℕ → ℕ → List ℕ → ℕ
head_number len kind r =
    unless (leb head_size (length r)) SHORT else
    unless (eqb (half r length_at) len) BAD_RECORD else
    unless (eqb (half r kind_at) kind) BAD_RECORD else
    unless (leb len (length r)) SHORT

-- End: 10 BAD-COUNT, its n differing
unfoldable pub end_number : ℕ → List ℕ → ℕ
end_number n r = head_number end_size end_kind r else unless (eqb (spelt r count_at) n) BAD_COUNT

-- End is due at this place after k Steps, and after it nothing: 12 TRAILING, at the first byte too many
unfoldable pub end_report : ℕ → ℕ → List ℕ → Report
end_report k place r =
    refused (end_number k r) place k
    (refused (unless (leb (length r) end_size) TRAILING) (place + end_size) k
    (record { number = ACCEPTED; place = place + end_size; steps = k }))

module _ (L : Layout) where
  -- Start: 10 BAD-COUNT, n above 65,535
  unfoldable pub start_number : List ℕ → ℕ
  start_number r = head_number (start_size L) L.start_kind r else unless (leb (spelt r count_at) most_steps) BAD_COUNT

  -- Step: 11 WRONG-STEP, anything but what the rules give from the block b before
  unfoldable pub step_number : List ℕ → List ℕ → ℕ
  step_number b r =
      head_number (step_size L) L.step_kind r else
      unless (same_bytes (take (step_size L) r) (step_record L b (event_of r))) WRONG_STEP

  -- ---- the string

  -- k Steps were right, up to the block b, and m are still due
  unfoldable pub report_from : (m k : ℕ) → List ℕ → List ℕ → Report
  report_from zero k b r = end_report k (place_of L k) r
  report_from (suc m) k b r =
      let rest = report_from m (k + 1) (L.after b (event_of r)) (drop (step_size L) r) in
      refused (step_number b r) (place_of L k) k rest

  unfoldable pub report : List ℕ → Report
  report s =
      let rest = report_from (spelt s count_at) 0 (take L.size (drop start_block_at s)) (drop (start_size L) s) in
      refused (start_number s) 0 0 rest
