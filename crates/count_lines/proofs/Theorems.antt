-- A line has at most sixteen bytes (Lining.antt), and there are 128 words.
use native.Mathlib.Omega.{arith}
use Rattle.counts.specs.Counts.{WORDS}
use Rattle.count_lines.specs.Theorems.{Theorems}
use Rattle.count_lines.proofs.Lining.{lines_few}

pub theorems : Theorems
theorems = record { lines_fit = λ c. lines_few WORDS 0 c (omega arith) }
