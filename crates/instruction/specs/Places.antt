-- Where the fixed bits, A and the condition stand in a word of either table: between the rules and the code, which the proofs join. No
-- contract of a public function goes by it.
use Rattle.std.specs.Prelude.{Bool, ◌&&◌, ℕ, ◌+◌, ◌*◌, ◌/◌, ◌%◌}
use Rattle.state.specs.Choice.{◌is◌}

-- the fixed bits that both share, those at 21 and 20, and a field that only one of them has fixed
abbrev pub has_bits : ℕ → ℕ → ℕ → ℕ → Bool
has_bits w op field due =
    (w / 0x800000 % 32 is 2)
    && ((w / 0x100000 % 4 is op) && ((w / 0x400 % 4 is 0) && ((w / 0x200 % 2 is 1) && ((w / 0x10 % 16 is 0) && (field is due)))))

-- A: R, M and M1
abbrev pub a_in : ℕ → ℕ
a_in w = w / 0x400000 % 2 * 32 + w / 0x100 % 2 * 16 + w / 0x10000 % 16

-- what the words of both have: the condition, R, M1, M, and the bits that are set in each
abbrev pub shared_of : ℕ → ℕ → ℕ
shared_of a condition = condition * 0x10000000 + a / 32 * 0x400000 + a % 16 * 0x10000 + a / 16 % 2 * 0x100 + 0x1000200
