-- Reading and writing undo each other. What is true of both tables is proved over any that tiles a word (Tables.antt), and what is done
-- by either over any that has what each of the two has (Kept).
use Rattle.std.specs.Prelude.{None, Some, is_some, unwrap_or, if◌then◌else◌}
use mathlib.Core.Path.{◌≡◌, refl, sym, ap, subst, ◌∙◌}
use mathlib.Core.Bool.{Bool, true, false, ◌&&◌, ◌||◌}
use mathlib.Core.List.{List, [], ◌∷◌}
use Prim.Native.Nat.{ℕ, ◌+◌, ◌*◌, ◌/◌, ◌%◌, ◌^◌, ◌<◌}
use native.Mathlib.Omega.{arith}
use native.Mathlib.Nat.{mod-eq_of_lt}
use lib.Dec.{ltb, lit<}
use borrow.Author.Tests.{eq-eqb, ne_eqb, eqb-true, eqb-false, lt-ltb}
use Rattle.state.specs.Choice.{◌is◌}
use Rattle.state.specs.Number.{DONE, NOT_BANKED}
use Rattle.state.proofs.Test.{and_left, and_right, both, refuted, true_is_not_false}
use Rattle.entry.specs.Code.{BANKED_READ, BANKED_WRITE}
use Rattle.instruction.specs.Encoding.{Name, Value, must_be, should_be, any, Field, MRS, MSR, values, in_word}
use Rattle.instruction.specs.Instruction.{Parts, encoding, in_a, in_condition, in_register, total, agrees, laid_out, parts_in}
use Rattle.instruction.specs.Instruction.{in_range, is_of, no_parts, is_read, reading, read_number, are_parts, given, holds, field_of}
use Rattle.instruction.specs.Instruction.{read_if, write_if}
use Rattle.instruction.specs.Instruction.{writing, write_number}
use Rattle.instruction.specs.Places.{a_in}
use Rattle.instruction.specs.Theorems.{InstructionTheorems}
use Rattle.instruction.proofs.Tables.{Tiles, tiled, Each, unit, whole, below, put_is_in, same_total}
use Rattle.instruction.proofs.Tests.{not_both}
use Rattle.instruction.proofs.Writing.{in_ranges, ranges, mrs_word, msr_word}

-- ---- a field by its value

agree : (v : Value) (n g : ℕ) → n ≡ holds v g → agrees v n ≡ true
agree (must_be x) n g h = eq-eqb n x h
agree (should_be x) n g h = eq-eqb n x h
agree any n g h = refl

-- what is asked of a field that is not fixed
abbrev Free : Value → Type 0 → Type 0
Free (must_be x) P = Unit {0}
Free (should_be x) P = Unit {0}
Free any P = P

fixed_in : (v : Value) (n g : ℕ) → agrees v n ≡ true → Free v (g ≡ n) → holds v g ≡ n
fixed_in (must_be x) n g h k = sym (eqb-true n x h)
fixed_in (should_be x) n g h k = sym (eqb-true n x h)
fixed_in any n g h k = k

-- ---- a table

laid_out_lem : (p : Parts) (w : ℕ) (fs : List Field) → Each (λ f. in_word f w ≡ field_of p f) fs → laid_out fs w ≡ true
laid_out_lem p w [] h = refl
laid_out_lem p w (f ∷ fs) h = both (agree f.value (in_word f w) (given f.name p) h.0) (laid_out_lem p w fs h.1)

given_back : (p : Parts) (w : ℕ) (fs : List Field) → laid_out fs w ≡ true
    → Each (λ f. Free f.value (given f.name p ≡ in_word f w)) fs
    → Each (λ f. field_of p f ≡ in_word f w) fs
given_back p w [] h k = tt
given_back p w (f ∷ fs) h k =
    let here = agrees f.value (in_word f w) in (
      fixed_in f.value (in_word f w) (given f.name p) (and_left here (laid_out fs w) h) k.0,
      given_back p w fs (and_right here (laid_out fs w) h) k.1,
    )

-- the word of what a word has
word_back : (p : Parts) (w : ℕ) (fs : List Field) → w < 2 ^ 32 → Tiles 32 fs → Each (λ f. field_of p f ≡ in_word f w) fs
    → total unit (field_of p) fs ≡ w
word_back p w fs small tiles h =
    same_total unit (field_of p) (λ f. in_word f w) fs h ∙ whole 32 fs w tiles ∙ mod-eq_of_lt small

-- ---- what each of the two tables has

-- of the table of a code: it tiles a word; what is put into its fields fits; the parts of a word that parts were put into are those; and
-- the parts of a word give its fields back
record Kept (code : ℕ) : Type 0 where
  banked : (code is BANKED_READ || code is BANKED_WRITE) ≡ true
  tiles : Tiles 32 (encoding code)
  fits : (p : Parts) → in_ranges p ≡ true → Each (λ f. field_of p f < values f) (encoding code)
  parts : (p : Parts) → in_ranges p ≡ true → p.code ≡ code → (w : ℕ) → Each (λ f. in_word f w ≡ field_of p f) (encoding code)
      → parts_in code w ≡ p
  a_is : (w : ℕ) → (parts_in code w).a ≡ a_in w
  named : (w : ℕ) → Each (λ f. Free f.value (given f.name (parts_in code w) ≡ in_word f w)) (encoding code)

-- what is given to a field is below its values: condition, register, R, M and M1
bounds : (p : Parts) → in_ranges p ≡ true
    → (p.condition < 16) × (p.register < 16) × (p.a / 32 < 2) × (p.a / 16 % 2 < 2) × (p.a % 16 < 16)
bounds p h = let r = ranges p h in (omega (arith, r.1), omega (arith, r.2), omega (arith, r.0), omega arith, omega arith)

-- the parts, as they are read off a word with those fields
module _ (p : Parts) (code w : ℕ) (e : p.code ≡ code) (h : Each (λ f. in_word f w ≡ field_of p f) (encoding code)) where
  abbrev put_in : (Name → ℕ) → ℕ
  put_in counts = total (λ f. counts f.name) (field_of p) (encoding code)

  read_off : (counts : Name → ℕ) → total (λ f. counts f.name) (λ f. in_word f w) (encoding code) ≡ put_in counts
  read_off counts = same_total (λ f. counts f.name) (λ f. in_word f w) (field_of p) (encoding code) h

  parts_are : put_in in_a ≡ p.a → put_in in_condition ≡ p.condition → put_in in_register ≡ p.register → parts_in code w ≡ p
  parts_are a c g =
      λ i. record {
        code = sym e i;
        a = (read_off in_a ∙ a) i;
        condition = (read_off in_condition ∙ c) i;
        register = (read_off in_register ∙ g) i;
      }

-- the digits of A: R, M and M1
module _ (w : ℕ) where
  abbrev r : ℕ
  r = w / 0x400000 % 2

  abbrev m : ℕ
  m = w / 0x100 % 2

  abbrev m1 : ℕ
  m1 = w / 0x10000 % 16

  below_each : (r < 2) × (m < 2) × (m1 < 16)
  below_each = (omega arith, omega arith, omega arith)

  digits : {a : ℕ} → a ≡ a_in w → (a / 32 ≡ r) × (a / 16 % 2 ≡ m) × (a % 16 ≡ m1)
  digits e =
      let b = below_each in (
        ap (λ k. k / 32) e ∙ r_of r m m1 b.0 b.1 b.2,
        ap (λ k. k / 16 % 2) e ∙ m_of r m m1 b.0 b.1 b.2,
        ap (λ k. k % 16) e ∙ m1_of r m m1 b.2,
      )
    where
      r_of : (x y z : ℕ) → x < 2 → y < 2 → z < 16 → (x * 32 + y * 16 + z) / 32 ≡ x
      r_of x y z h k l = omega arith

      m_of : (x y z : ℕ) → x < 2 → y < 2 → z < 16 → (x * 32 + y * 16 + z) / 16 % 2 ≡ y
      m_of x y z h k l = omega arith

      m1_of : (x y z : ℕ) → z < 16 → (x * 32 + y * 16 + z) % 16 ≡ z
      m1_of x y z l = omega arith

  a_below : a_in w < 64
  a_below = let b = below_each in omega (arith, b.0, b.1, b.2)

mrs : Kept BANKED_READ
mrs =
    record {
      banked = refl;
      tiles = tiled 32 MRS refl;
      fits = λ p h. let b = bounds p h in
          (b.0, (lit< tt, (b.2, (lit< tt, (b.4, (b.1, (lit< tt, (lit< tt, (b.3, (lit< tt, (lit< tt, tt)))))))))));
      parts = λ p h e w k. parts_are p BANKED_READ w e k (omega (arith, (ranges p h).0)) (omega arith) (omega arith);
      a_is = λ w. omega arith;
      named = λ w.
          let p = parts_in BANKED_READ w in
          let condition : p.condition ≡ w / 2 ^ 28 % 16 = omega arith in
          let register : p.register ≡ w / 2 ^ 12 % 16 = omega arith in
          let a : p.a ≡ a_in w = omega arith in
          let d = digits w a in
          (condition, (tt, (d.0, (tt, (d.2, (register, (tt, (tt, (d.1, (tt, (tt, tt)))))))))));
    }

msr : Kept BANKED_WRITE
msr =
    record {
      banked = refl;
      tiles = tiled 32 MSR refl;
      fits = λ p h. let b = bounds p h in
          (b.0, (lit< tt, (b.2, (lit< tt, (b.4, (lit< tt, (lit< tt, (lit< tt, (b.3, (lit< tt, (b.1, tt)))))))))));
      parts = λ p h e w k. parts_are p BANKED_WRITE w e k (omega (arith, (ranges p h).0)) (omega arith) (omega arith);
      a_is = λ w. omega arith;
      named = λ w.
          let p = parts_in BANKED_WRITE w in
          let condition : p.condition ≡ w / 2 ^ 28 % 16 = omega arith in
          let register : p.register ≡ w / 2 ^ 0 % 16 = omega arith in
          let a : p.a ≡ a_in w = omega arith in
          let d = digits w a in
          (condition, (tt, (d.0, (tt, (d.2, (tt, (tt, (tt, (d.1, (tt, (register, tt)))))))))));
    }

-- ---- reading what was written

-- a word that is laid out by one table, with its parts
module _ (w : ℕ) (p : Parts) where
  abbrev ReadAs : Type 0
  ReadAs = (is_read w ≡ true) × (reading w ≡ p)

  as_mrs : is_of BANKED_READ w ≡ true → parts_in BANKED_READ w ≡ p → ReadAs
  unfolding reading
  as_mrs h e = (rw h refl, rw h e)

  as_msr : is_of BANKED_READ w ≡ false → is_of BANKED_WRITE w ≡ true → parts_in BANKED_WRITE w ≡ p → ReadAs
  unfolding reading
  as_msr n h e = (rw (n, h) refl, rw (n, h) e)

module _ (p : Parts) (are : are_parts p ≡ true) where
  abbrev is_banked : Bool
  is_banked = p.code is BANKED_READ || p.code is BANKED_WRITE

  in_ranges_lem : in_ranges p ≡ true
  in_ranges_lem = and_right is_banked (in_ranges p) are

  written : writing p ≡ total unit (field_of p) (encoding p.code)
  unfolding writing
  written = rw are refl

  -- the code is one of the two
  by_code : (P : Type 0) → (p.code ≡ BANKED_READ → P) → (p.code ≡ BANKED_WRITE → P) → P
  by_code P read write = by (p.code is BANKED_READ) refl
    where
      by : (t : Bool) → (p.code is BANKED_READ) ≡ t → P
      by true h = read (eqb-true p.code BANKED_READ h)
      by false h =
          let banked = and_left is_banked (in_ranges p) are in
          write (eqb-true p.code BANKED_WRITE (ap (λ t. t || p.code is BANKED_WRITE) (sym h) ∙ banked))

  -- by the table of that code
  module _ {code : ℕ} (T : Kept code) (e : p.code ≡ code) where
    abbrev word : ℕ
    word = total unit (field_of p) (encoding code)

    written_as : writing p ≡ word
    written_as = written ∙ ap (λ k. total unit (field_of p) (encoding k)) e

    fields : Each (λ f. in_word f word ≡ field_of p f) (encoding code)
    fields = put_is_in 32 (encoding code) (field_of p) T.tiles (T.fits p in_ranges_lem)

    out : laid_out (encoding code) word ≡ true
    out = laid_out_lem p word (encoding code) fields

    parts_back : parts_in code word ≡ p
    parts_back = T.parts p in_ranges_lem e word fields

    is_of_lem : is_of code word ≡ true
    is_of_lem = both out (ap in_range parts_back ∙ and_right (ltb p.a 64) (in_range p) in_ranges_lem)

    word_below : writing p < 2 ^ 32
    word_below =
        subst (λ v. v < 2 ^ 32) (sym written_as) (below 32 (encoding code) (field_of p) T.tiles (T.fits p in_ranges_lem))

  read_mrs : p.code ≡ BANKED_READ → ReadAs (writing p) p
  read_mrs e = subst (λ v. ReadAs v p) (sym (written_as mrs e)) (as_mrs (word mrs e) p (is_of_lem mrs e) (parts_back mrs e))

  read_msr : p.code ≡ BANKED_WRITE → ReadAs (writing p) p
  read_msr e =
      let w = word msr e in
      let not-mrs = refuted (laid_out MRS w) (λ t. true_is_not_false (out msr e) (not_both w t)) in
      let not-of = ap (λ t. t && in_range (parts_in BANKED_READ w)) not-mrs in
      subst (λ v. ReadAs v p) (sym (written_as msr e)) (as_msr w p not-of (is_of_lem msr e) (parts_back msr e))

  read_back : ReadAs (writing p) p
  read_back = by_code (ReadAs (writing p) p) read_mrs read_msr

-- ---- writing what was read

module _ (w : ℕ) (small : w < 2 ^ 32) where
  -- parts that are written as this word
  abbrev WrittenAs : Parts → Type 0
  WrittenAs p = (are_parts p ≡ true) × (writing p ≡ w)

  -- by the table of a code
  write_as : {code : ℕ} → Kept code → is_of code w ≡ true → WrittenAs (parts_in code w)
  write_as {code} T h =
      let p = parts_in code w in
      let laid = laid_out (encoding code) w in
      let a_fits : p.a < 64 = omega (arith, T.a_is w, a_below w) in
      let are : are_parts p ≡ true = both T.banked (both (lt-ltb p.a 64 a_fits) (and_right laid (in_range p) h)) in
      let back = given_back p w (encoding code) (and_left laid (in_range p) h) (T.named w) in
      (are, written p are ∙ word_back p w (encoding code) small T.tiles back)

  write_back : is_read w ≡ true → WrittenAs (reading w)
  write_back h = by (is_of BANKED_READ w) refl
    where
      by : (t : Bool) → is_of BANKED_READ w ≡ t → WrittenAs (reading w)
      by true k = subst WrittenAs (sym (as_mrs w (parts_in BANKED_READ w) k refl).1) (write_as mrs k)
      by false k =
          let of : is_of BANKED_WRITE w ≡ true = ap (λ t. t || is_of BANKED_WRITE w) (sym k) ∙ h in
          subst WrittenAs (sym (as_msr w (parts_in BANKED_WRITE w) k of refl).1) (write_as msr of)

-- ---- the numbers

done : (t : Bool) → (if t then DONE else NOT_BANKED) ≡ DONE → t ≡ true
done true h = refl
done false h = absurd (eqb-false NOT_BANKED DONE refl h)

not_done : (t : Bool) → ((if t then DONE else NOT_BANKED) ≡ DONE → ⊥) → t ≡ false
not_done true h = absurd (h refl)
not_done false h = refl

is_read_lem : (w : ℕ) → read_number w ≡ DONE → is_read w ≡ true
unfolding read_number
is_read_lem w h = done (is_read w) h

number_read : (w : ℕ) → is_read w ≡ true → read_number w ≡ DONE
unfolding read_number
number_read w h = rw h refl

not_read : (w : ℕ) → (read_number w ≡ DONE → ⊥) → (read_number w ≡ NOT_BANKED) × (reading w ≡ no_parts)
unfolding read_number reading
not_read w h =
    let no = not_done (is_read w) h in
    let mrs = refuted (is_of BANKED_READ w) (λ t. true_is_not_false (ap (λ x. x || is_of BANKED_WRITE w) t) no) in
    let msr : is_of BANKED_WRITE w ≡ false = sym (ap (λ x. x || is_of BANKED_WRITE w) mrs) ∙ no in
    (rw no refl, rw (mrs, msr) refl)

are_parts_lem : (p : Parts) → write_number p ≡ DONE → are_parts p ≡ true
unfolding write_number
are_parts_lem p h = done (are_parts p) h

number_written : (p : Parts) → are_parts p ≡ true → write_number p ≡ DONE
unfolding write_number
number_written p h = rw h refl

not_written : (p : Parts) → (write_number p ≡ DONE → ⊥) → (write_number p ≡ NOT_BANKED) × (writing p ≡ 0)
unfolding write_number writing
not_written p h = let no = not_done (are_parts p) h in (rw no refl, rw no refl)

is_word : (p : Parts) → writing p < 2 ^ 32
is_word p = by (are_parts p) refl
  where
    by : (t : Bool) → are_parts p ≡ t → writing p < 2 ^ 32
    by true h = by_code p h (writing p < 2 ^ 32) (word_below p h mrs) (word_below p h msr)
    by false h = subst (λ v. v < 2 ^ 32) (sym (not_written p (λ z. true_is_not_false (are_parts_lem p z) h)).1) (lit< tt)

-- ---- by what there is to tell: the number, and the parts and the word, which are 0 where there is none

pub read_number_is : (w : ℕ) → read_number w ≡ (if is_some (read_if w) then DONE else NOT_BANKED)
unfolding read_number read_if
read_number_is w = by (is_read w)
  where
    by : (t : Bool) → (if t then DONE else NOT_BANKED) ≡ (if is_some (if t then Some (reading w) else None) then DONE else NOT_BANKED)
    by true = refl
    by false = refl

pub reading_is : (w : ℕ) → reading w ≡ unwrap_or (read_if w) no_parts
unfolding read_if
reading_is w = by (is_read w) refl
  where
    by : (t : Bool) → is_read w ≡ t → reading w ≡ unwrap_or (if t then Some (reading w) else None) no_parts
    by true h = refl
    by false h = (not_read w (λ z. true_is_not_false (is_read_lem w z) h)).1

pub write_number_is : (p : Parts) → write_number p ≡ (if is_some (write_if p) then DONE else NOT_BANKED)
unfolding write_number write_if
write_number_is p = by (are_parts p)
  where
    by : (t : Bool) → (if t then DONE else NOT_BANKED) ≡ (if is_some (if t then Some (writing p) else None) then DONE else NOT_BANKED)
    by true = refl
    by false = refl

pub writing_is : (p : Parts) → writing p ≡ unwrap_or (write_if p) 0
unfolding write_if writing
writing_is p = by (are_parts p)
  where
    by : (t : Bool) → let sum = total unit (field_of p) (encoding p.code) in
        (if t then sum else 0) ≡ unwrap_or (if t then Some (if t then sum else 0) else None) 0
    by true = refl
    by false = refl

-- ---- the numbers by what was read and written: the parts of no instruction have no code, and no instruction is the word 0

pub number_by_code : (w : ℕ) → read_number w ≡ (if (reading w).code is 0 then NOT_BANKED else DONE)
unfolding read_number reading
number_by_code w = by (is_of BANKED_READ w) (is_of BANKED_WRITE w)
  where
    by : (t u : Bool)
        → (if t || u then DONE else NOT_BANKED)
        ≡ (if (if t then parts_in BANKED_READ w else if u then parts_in BANKED_WRITE w else no_parts).code is 0 then NOT_BANKED else DONE)
    by true u = refl
    by false true = refl
    by false false = refl

-- what there is to write, where there are parts of an instruction
the_word : (p : Parts) {w : ℕ} → are_parts p ≡ true → Some w ≡ write_if p → w ≡ writing p
unfolding write_if
the_word p {w} are h = ap (λ x. unwrap_or x w) (h ∙ ap (λ t. if t then Some (writing p) else None) are)

not_zero : (p : Parts) → are_parts p ≡ true → writing p ≡ 0 → ⊥
not_zero p are z =
    let r = ranges p (in_ranges_lem p are) in
    let in_them = and_right (ltb p.a 64) (in_range p) (in_ranges_lem p are) in
    by_code p are ⊥ (λ e. omega (arith, the_word p are (mrs_word p r.0 in_them e), z))
    (λ e. omega (arith, the_word p are (msr_word p r.0 in_them e), z))

pub number_by_word : (p : Parts) → write_number p ≡ (if writing p is 0 then NOT_BANKED else DONE)
number_by_word p = by (are_parts p) refl
  where
    by : (t : Bool) → are_parts p ≡ t → write_number p ≡ (if writing p is 0 then NOT_BANKED else DONE)
    by true h = number_written p h ∙ sym (ap (λ t. if t then NOT_BANKED else DONE) (ne_eqb (writing p) 0 (not_zero p h)))
    by false h =
        let none = not_written p (λ z. true_is_not_false (are_parts_lem p z) h) in
        none.0 ∙ sym (ap (λ t. if t then NOT_BANKED else DONE) (eq-eqb (writing p) 0 none.1))

pub theorems : InstructionTheorems
unfolding reading
theorems =
    record {
      read_written = λ p h. (read_back p (are_parts_lem p h)).1;
      written_read = λ w small h. (write_back w small (is_read_lem w h)).1;
      is_word = is_word;
      read_exactly = λ w small. (
        λ h. let back = write_back w small (is_read_lem w h) in record { parts = reading w; are = back.0; word = back.1 },
        λ x. subst (λ v. read_number v ≡ DONE) x.word (number_read (writing x.parts) (read_back x.parts x.are).0),
      );
      else_not_banked = not_read;
      write_exactly = λ p. (are_parts_lem p, number_written p);
      else_no_word = not_written;
      mrs_r2 = refl;
      msr_r2 = refl;
    }
