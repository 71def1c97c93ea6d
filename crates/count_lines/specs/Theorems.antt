-- What is proved of the lines.
use Rattle.std.specs.Prelude.{List, ℕ, ◌≤◌, length}
use Rattle.count_lines.specs.Lines.{lines}

pub record Theorems : Type 0 where
  -- 2,048 bytes are room enough for the lines of any counts
  pub lines_fit : (c : List ℕ) → length (lines c) ≤ 2048
