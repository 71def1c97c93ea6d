-- What the inner functions of the lines ask and answer. Nobody has to believe these: the contract of the public function cites
-- Lines.antt alone.
use Rattle.std.specs.Prelude.{ℕ}

-- ---- a text that is made from the back

-- room for the lines of any counts
abbrev pub TEXT_SIZE : ℕ
TEXT_SIZE = 2048
