-- MRS (banked register) and MSR (banked register), encoding A1, as their manual pages lay them out (document 02, No. 14): a table of
-- fields, from bit 31 down.
use Rattle.std.specs.Prelude.{List, [], ◌∷◌, ℕ, ◌+◌, ◌-◌, ◌/◌, ◌%◌, ◌^◌}

-- a field's name; bits that always are the same have none
pub data Name : Type 0 where
  cond : Name
  R : Name
  M1 : Name
  Rd : Name
  Rn : Name
  M : Name
  none : Name

-- the value where it is fixed: bits that make the instruction what it is, and those that the page has in brackets, "should be" so
pub data Value : Type 0 where
  must_be : ℕ → Value
  should_be : ℕ → Value
  any : Value

pub record Field : Type 0 where
  pub name : Name
  pub high : ℕ
  pub low : ℕ
  pub value : Value

-- ---- three kinds of rows: a field by its name, and fixed bits

abbrev named : Name → ℕ → ℕ → Field
named name high low = record { name = name; high = high; low = low; value = any }

abbrev fixed : ℕ → ℕ → ℕ → Field
fixed high low v = record { name = none; high = high; low = low; value = must_be v }

abbrev should : ℕ → ℕ → ℕ → Field
should high low v = record { name = none; high = high; low = low; value = should_be v }

-- ---- the two tables

abbrev pub MRS : List Field
MRS =
    named cond 31 28
    ∷ fixed 27 23 2
    ∷ named R 22 22
    ∷ fixed 21 20 0
    ∷ named M1 19 16
    ∷ named Rd 15 12
    ∷ should 11 10 0
    ∷ fixed 9 9 1
    ∷ named M 8 8
    ∷ fixed 7 4 0
    ∷ should 3 0 0
    ∷ []

abbrev pub MSR : List Field
MSR =
    named cond 31 28
    ∷ fixed 27 23 2
    ∷ named R 22 22
    ∷ fixed 21 20 2
    ∷ named M1 19 16
    ∷ should 15 12 15
    ∷ should 11 10 0
    ∷ fixed 9 9 1
    ∷ named M 8 8
    ∷ fixed 7 4 0
    ∷ named Rn 3 0
    ∷ []

-- how many values a field may have, and the one that it has in a word
abbrev pub values : Field → ℕ
values f = 2 ^ (f.high + 1 - f.low)

abbrev pub in_word : Field → ℕ → ℕ
in_word f w = w / 2 ^ f.low % values f
