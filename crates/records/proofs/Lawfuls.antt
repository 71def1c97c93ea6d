-- Both layouts are lawful: their numbers are small, and the step keeps a block's size and bytes and answers words. An event that the
-- old one knows leaves HDCR 0.
use Rattle.std.specs.Prelude.{if◌then◌else◌}
use mathlib.Core.Path.{◌≡◌, refl, sym, ap, ◌∙◌}
use mathlib.Core.Bool.{Bool, true, false}
use mathlib.Core.List.{List, ◌++◌, append-nil}
use Prim.Native.Nat.{ℕ, ◌+◌, ◌≤◌}
use native.Mathlib.Omega.{arith}
use lib.Dec.{lit<, lit≤}
use lib.ListN.{length, take, drop, replicate, length-append, length-take, take-append-drop}
use lib.Seq.{take_at, take_all, take-length, drop_at}
use Rattle.words.specs.Word.{le32, Bytes}
use Rattle.words.proofs.Laws.{bytes_le32}
use Rattle.words.proofs.Spell.{bytes_append, bytes_take}
use Rattle.state.specs.Place.{BLOCK_SIZE, OLD_BLOCK_SIZE}
use Rattle.rules.specs.Known.{unknown_to_old, seen}
use Rattle.rules.specs.Step.{answer, after}
use Rattle.rules.specs.declared.event.Event.{Event}
use Rattle.machine.proofs.Behind.{behind_stays}
use Rattle.machine.proofs.Laws.{length_after, bytes_after, number_fits, value_fits}
use Rattle.records.specs.Judged.{wide, narrow, IsWide}
use Rattle.records.specs.Layout.{with_hdcr0, old_layout, new_layout, layout, most_steps, place_of, Lawful}

-- ---- an old block with HDCR 0

pub length_with : (b : List ℕ) → length b ≡ OLD_BLOCK_SIZE → length (with_hdcr0 b) ≡ BLOCK_SIZE
length_with b h = length-append b (le32 0) ∙ ap (λ n. n + 4) h

bytes_with : (b : List ℕ) → Bytes b → Bytes (with_hdcr0 b)
bytes_with b h = bytes_append b (le32 0) h (bytes_le32 0)

-- what is seen is known
known : (e : Event) → unknown_to_old (seen true e) ≡ false
unfolding seen
known e = by (unknown_to_old e) refl
  where
    by : (t : Bool) → unknown_to_old e ≡ t
        → unknown_to_old (if t then record { code = 0; a = e.a; b = e.b } else e) ≡ false
    by true h = refl
    by false h = h

-- the block after an event is an old one with HDCR 0 again
pub after_with : (b : List ℕ) (e : Event) → length b ≡ OLD_BLOCK_SIZE
    → after (with_hdcr0 b) (seen true e) ≡ with_hdcr0 (old_layout.after b e)
after_with b e h =
    let c = after (with_hdcr0 b) (seen true e) in
    let behind : drop OLD_BLOCK_SIZE c ≡ le32 0 =
    behind_stays (with_hdcr0 b) (seen true e) (known e) ∙ drop_at b (le32 0) OLD_BLOCK_SIZE h in
    sym (take-append-drop OLD_BLOCK_SIZE c) ∙ ap (λ l. take OLD_BLOCK_SIZE c ++ l) behind

-- ---- lawful

pub lawful_old : Lawful old_layout
lawful_old =
    record {
      step_fits = lit< tt;
      start_kind_fits = lit< tt;
      step_kind_fits = lit< tt;
      next_behind = λ e. omega arith;
      next_going = lit< tt;
      length_after = λ b e h.
          let c = after (with_hdcr0 b) (seen true e) in
          omega (arith, length-take OLD_BLOCK_SIZE c, length_after (with_hdcr0 b) (seen true e), length_with b h);
      bytes_after = λ b e h by.
          bytes_take OLD_BLOCK_SIZE (after (with_hdcr0 b) (seen true e)) (bytes_after (with_hdcr0 b) (seen true e) (bytes_with b by));
      number_fits = λ b e h. number_fits (with_hdcr0 b) (seen true e);
      value_fits = λ b e h by. value_fits (with_hdcr0 b) (seen true e) (bytes_with b by);
    }

pub lawful_new : Lawful new_layout
lawful_new =
    record {
      step_fits = lit< tt;
      start_kind_fits = lit< tt;
      step_kind_fits = lit< tt;
      next_behind = λ e. omega arith;
      next_going = lit< tt;
      length_after = λ b e h. length_after b (seen false e) ∙ h;
      bytes_after = λ b e h. bytes_after b (seen false e);
      number_fits = λ b e h. number_fits b (seen false e);
      value_fits = λ b e h. value_fits b (seen false e);
    }

pub lawful : (old : Bool) → Lawful (layout old)
lawful true = lawful_old
lawful false = lawful_new

-- a word holds every place
pub place_few : (old : Bool) (k : ℕ) → k ≤ most_steps → place_of (layout old) k ≤ place_of new_layout most_steps
place_few true k h = omega arith
place_few false k h = omega arith

-- ---- a block of either layout as the machine has it

-- it has room there
pub size_few : (old : Bool) → (layout old).size ≤ BLOCK_SIZE
size_few true = lit≤ tt
size_few false = lit≤ tt

pub wide-after : (old : Bool) (b : List ℕ) (e : Event) → length b ≡ (layout old).size
    → after (wide old b) (seen old e) ≡ wide old ((layout old).after b e)
wide-after true b e h = after_with b e h
wide-after false b e h = refl

pub wide-answer : (old : Bool) (b : List ℕ) (e : Event) → answer (wide old b) (seen old e) ≡ (layout old).answer b e
wide-answer true b e = refl
wide-answer false b e = refl

pub length-wide : (old : Bool) (b : List ℕ) → length b ≡ (layout old).size → length (wide old b) ≡ BLOCK_SIZE
length-wide true b h = length_with b h
length-wide false b h = h

pub narrow_wide : (old : Bool) (b : List ℕ) → length b ≡ (layout old).size → take (layout old).size (wide old b) ≡ b
narrow_wide true b h = take_at b (le32 0) OLD_BLOCK_SIZE h
narrow_wide false b h = take_all BLOCK_SIZE b (omega arith)

-- copied over zeros it is
pub wide_copied : (old : Bool) (b c : List ℕ) → length b ≡ (layout old).size
    → c ≡ take (length b) b ++ drop (length b) (replicate BLOCK_SIZE 0) → c ≡ wide old b
wide_copied old b c h e =
    e ∙ ap (λ l. l ++ drop (length b) (replicate BLOCK_SIZE 0)) (take-length b)
    ∙ ap (λ n. b ++ drop n (replicate BLOCK_SIZE 0)) h ∙ behind old
  where
    behind : (t : Bool) → b ++ drop (layout t).size (replicate BLOCK_SIZE 0) ≡ wide t b
    behind true = refl
    behind false = append-nil b

-- a block that is such a one
module _ (old : Bool) where
  pub wide_is : (b c : List ℕ) → length b ≡ (layout old).size → c ≡ wide old b → (narrow old c ≡ b) × IsWide old c
  wide_is b c h e =
      let back : narrow old c ≡ b = ap (narrow old) e ∙ narrow_wide old b h in
      (back, record { size = ap length back ∙ h; is = e ∙ ap (wide old) (sym back) })

  module _ (c : List ℕ) (w : IsWide old c) where
    pub size_wide : length c ≡ BLOCK_SIZE
    size_wide = ap length w.is ∙ length-wide old (narrow old c) w.size

    -- a step on it is the layout's
    pub answered_wide : (e : Event) → answer c (seen old e) ≡ (layout old).answer (narrow old c) e
    answered_wide e = ap (λ d. answer d (seen old e)) w.is ∙ wide-answer old (narrow old c) e

    pub stepped_wide : (e : Event) (l : List ℕ) → l ≡ after c (seen old e)
        → (narrow old l ≡ (layout old).after (narrow old c) e) × IsWide old l
    stepped_wide e l h =
        wide_is ((layout old).after (narrow old c) e) l ((lawful old).length_after (narrow old c) e w.size)
        (h ∙ ap (λ d. after d (seen old e)) w.is ∙ wide-after old (narrow old c) e w.size)
