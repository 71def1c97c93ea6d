-- Several bits of a word at once. The three mask bits are a number of three bits: an or of two such numbers is an or of each bit.
-- SCTLR, from which T and E come, is a number of seven bits from bit 25 up. A test over all of them each.
use Rattle.std.proofs.Common.{◌≡◌, ℕ, ◌+◌, ◌*◌, ◌/◌, ◌%◌, ◌^◌, ◌<◌, Bool, true, ◌&&◌, ◌||◌, List, length, eqb, ltb, refl, arith}
use Rattle.std.proofs.Common.{ltb-true, eqb-true}
use lib.Bits.{bit_and, bit_or}
use Rattle.words.specs.Word.{word, put}
use Rattle.words.proofs.Laws.{word-put_same}
use Rattle.state.specs.Field.{bit, flag, without, SCTLR_EE, SCTLR_TE}
use Rattle.state.specs.Place.{BLOCK_SIZE, SCR}
use Rattle.state.proofs.Test.{and_left, and_right, at_below, every_bit, at_bit}
use Rattle.entry.specs.Enter.{sets_a, sets_i, sets_f, masks_after}
use Rattle.entry.specs.Parts.{sets_number}

abbrev three : Bool → Bool → Bool → ℕ
three a i f = flag 2 a + flag 1 i + flag 0 f

abbrev joined : ℕ → Bool → Bool → Bool → Bool
joined o a i f =
    eqb (bit_or o (three a i f) * 64) (flag 8 (bit 2 o || a) + flag 7 (bit 1 o || i) + flag 6 (bit 0 o || f))
    && ltb (bit_or o (three a i f)) 8

tried : (o : ℕ) (a i f : Bool) → o < 8 → joined o a i f ≡ true
tried o a i f h =
    at_bit (joined o a i)
    (at_bit (λ i. every_bit (joined o a i))
    (at_bit (λ a. every_bit (λ i. every_bit (joined o a i)))
    (at_below 8 (λ o. every_bit (λ a. every_bit (λ i. every_bit (joined o a i)))) refl o h)
    a) i) f

-- the old mask bits, as a number and each by itself
old_a : (w : ℕ) → w / 64 % 8 / 4 % 2 ≡ w / 256 % 2
old_a w = omega arith

old_i : (w : ℕ) → w / 64 % 8 / 2 % 2 ≡ w / 128 % 2
old_i w = omega arith

old_f : (w : ℕ) → w / 64 % 8 / 1 % 2 ≡ w / 64 % 2
old_f w = omega arith

small : (w : ℕ) → w / 64 % 8 < 8
small w = omega arith

module _ (cpsr scr to : ℕ) {s : ℕ} (e : s ≡ sets_number to scr) where
  pub masks_are : bit_or (cpsr / 64 % 8) s * 64 ≡ masks_after cpsr scr to
  unfolding masks_after
  masks_are =
      rw (e, ← old_a cpsr, ← old_i cpsr, ← old_f cpsr)
      (eqb-true _ _
      (and_left _ _ (tried (cpsr / 64 % 8) (sets_a to scr) (sets_i to scr) (sets_f to scr) (small cpsr))))

  pub masks_small : bit_or (cpsr / 64 % 8) s < 8
  masks_small =
      let t = tried (cpsr / 64 % 8) (sets_a to scr) (sets_i to scr) (sets_f to scr) (small cpsr) in
      rw e
      (ltb-true (bit_or (cpsr / 64 % 8) (sets_number to scr)) 8
      (and_right
      (eqb (bit_or (cpsr / 64 % 8) (sets_number to scr) * 64)
      (flag 8 (bit 2 (cpsr / 64 % 8) || sets_a to scr)
      + flag 7 (bit 1 (cpsr / 64 % 8) || sets_i to scr)
      + flag 6 (bit 0 (cpsr / 64 % 8) || sets_f to scr)))
      (ltb (bit_or (cpsr / 64 % 8) (sets_number to scr)) 8)
      t))

-- ---- T and E: the product has a copy of the number nine bits higher, and the mask takes one bit of each

abbrev product : ℕ → ℕ
product x = bit_and (x * 513) 0x220

abbrev flags : ℕ → ℕ
flags x = flag 9 (eqb (x % 2) 1) + flag 5 (eqb (x / 32 % 2) 1)

abbrev right : ℕ → Bool
right x = eqb (product x) (flags x) && ltb (product x) 1024

module _ (w : ℕ) (fits : w < 2 ^ 32) where
  abbrev x : ℕ
  x = w / 0x2000000

  right_here : right x ≡ true
  right_here = at_below 128 right refl x (omega arith)

  te : w / 0x40000000 % 2 ≡ x / 32 % 2
  te = omega arith

  pub flags_are : product x ≡ flag 9 (SCTLR_EE w) + flag 5 (SCTLR_TE w)
  flags_are = rw te (eqb-true (product x) (flags x) (and_left _ _ right_here))

  pub flags_small : product x < 1024
  flags_small = ltb-true (product x) 1024 (and_right (eqb (product x) (flags x)) _ right_here)

-- ---- SCR with NS clear, which an entry then reads back

pub ns_clear : (w : ℕ) → w / 2 * 2 ≡ without 0 w
ns_clear w = omega arith

pub scr_put : (b : List ℕ) (w : ℕ) → length b ≡ BLOCK_SIZE → w < 2 ^ 32 → word (put b SCR w) SCR ≡ w
scr_put b w l h = word-put_same b SCR w (omega arith) h
