-- Little-endian words in lists of bytes (document 01, "The state block" and "The trace").
--
-- A word is four bytes, the lowest first. The word at a place p of a block is the four bytes from 4 p on. Both are total:
-- a byte past the end reads 0, and a byte put past the end changes nothing.
use Rattle.std.specs.Prelude.{List, [], ◌∷◌, ℕ, ◌+◌, ◌*◌, ◌/◌, ◌%◌, ◌<◌, get_or}
use Rattle.std.proofs.lemmas.List.Edits.{sets}

-- the two, and the four, bytes of a number, the lowest first
abbrev pub le16 : ℕ → List ℕ
le16 w = w % 256 ∷ w / 256 % 256 ∷ []

abbrev pub le32 : ℕ → List ℕ
le32 w = w % 256 ∷ w / 256 % 256 ∷ w / 256 / 256 % 256 ∷ w / 256 / 256 / 256 % 256 ∷ []

-- the number that the two, and the four, bytes from i on spell
unfoldable pub half : List ℕ → ℕ → ℕ
half r i = get_or r i 0 + 256 * get_or r (i + 1) 0

unfoldable pub spelt : List ℕ → ℕ → ℕ
spelt r i = get_or r i 0 + 256 * (get_or r (i + 1) 0 + 256 * (get_or r (i + 2) 0 + 256 * get_or r (i + 3) 0))

-- the word at the place p of the block b, and the block with the word w put there
abbrev pub word : List ℕ → ℕ → ℕ
word b p = spelt b (4 * p)

unfoldable pub put : List ℕ → ℕ → ℕ → List ℕ
put b p w = sets b (4 * p) (le32 w)

-- every element is a byte
abbrev pub Bytes : List ℕ → Type 0
Bytes s = (i : ℕ) → get_or s i 0 < 256
