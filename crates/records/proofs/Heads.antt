-- The head of a Start tells the layout, and nothing behind it does: so a published trace has the layout that it was published in, and
-- keeps it with more bytes, with later bytes changed, and cut behind the head. Of fewer bytes every layout says the same.
use mathlib.Core.Path.{◌≡◌, sym, ap, ◌∙◌}
use mathlib.Core.Bool.{Bool, true, false, not, ◌&&◌}
use mathlib.Core.Logic.{◌⊎◌, inl, inr}
use mathlib.Core.List.{List, ◌++◌}
use Prim.Native.Nat.{ℕ, ◌<◌, ◌≤◌}
use native.Mathlib.Omega.{arith}
use lib.ListN.{length, take, drop, length-take, take-append-drop}
use lib.Seq.{take_all}
use lib.Dec.{leb}
use borrow.Author.Tests.{le-leb}
use Rattle.words.specs.Word.{half}
use Rattle.state.specs.Choice.{◌is◌}
use Rattle.records.specs.Layout.{Layout, layout, new_layout, is_old, head_size, start_size, kind_at}
use Rattle.records.specs.Published.{start_record, published, Published}
use Rattle.records.specs.Report.{head_number, start_number, report, ACCEPTED, SHORT}
use Rattle.records.proofs.Faults.{head_whole, head_short, below, else_zero, refused_zero}
use Rattle.records.proofs.Begun.{old_front}
use Rattle.records.proofs.Lawfuls.{lawful}
use Rattle.records.proofs.Records.{start_head}

-- the layout goes by whether the head is there, and by its kind
pub old_by : (s t : List ℕ) → leb head_size (length s) ≡ leb head_size (length t) → half s kind_at ≡ half t kind_at → is_old s ≡ is_old t
unfolding is_old
old_by s t l h = λ i. not (l i && h i is new_layout.start_kind)

-- cut behind the head
pub cut_old : (s : List ℕ) (k : ℕ) → head_size ≤ k → is_old (take k s) ≡ is_old s
cut_old s k h = go (below (length s) head_size)
  where
    go : (length s < head_size) ⊎ (head_size ≤ length s) → is_old (take k s) ≡ is_old s
    go (inl l) = ap is_old (take_all k s (omega arith))
    go (inr l) =
        sym (old_front (take k s) (drop k s) (omega (arith, length-take k s))) ∙ ap is_old (take-append-drop k s)

-- a right head of a Start is that of its layout
pub head_tells : (old : Bool) (s : List ℕ) → head_number (start_size (layout old)) (layout old).start_kind s ≡ 0 → is_old s ≡ old
unfolding is_old
head_tells true s z = let w = head_whole _ _ s z in simp (le-leb head_size (length s) w.0, w.2)
head_tells false s z = let w = head_whole _ _ s z in simp (le-leb head_size (length s) w.0, w.2)

pub start_tells : (old : Bool) (n : ℕ) (b t : List ℕ) → length b ≡ (layout old).size → is_old (start_record (layout old) n b ++ t) ≡ old
start_tells old n b t h = head_tells old _ (start_head (layout old) (lawful old) n b t h)

pub published_tells : (old : Bool) (s : List ℕ) → Published (layout old) s → is_old s ≡ old
unfolding published
published_tells old s p = ap is_old p.is ∙ start_tells old _ p.start _ p.size

-- so a string that a layout accepts has that layout
pub accepted_tells : (old : Bool) (s : List ℕ) → (report (layout old) s).number ≡ ACCEPTED → is_old s ≡ old
unfolding report start_number
accepted_tells old s z =
    let L = layout old in
    let start = (refused_zero (start_number L s) 0 0 _ z).0 in
    head_tells old s (else_zero (head_number (start_size L) L.start_kind s) _ start).0

-- of fewer bytes than a head every layout says that they are short
pub few_short : (L : Layout) (s : List ℕ) → length s < head_size → report L s ≡ record { number = SHORT; place = 0; steps = 0 }
unfolding report start_number
few_short L s h = simp (head_short (start_size L) L.start_kind s h)
