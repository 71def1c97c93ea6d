-- The words passed agree.
use Prim.Native.Nat.{ℕ, ◌<◌}
use mathlib.Core.Path.{◌≡◌}
use Rattle.words.specs.Word.{word}
use Rattle.explain.proofs.first_difference.Given as goal

abbrev pub invariant-loop-p : goal.invariant-loop-p
invariant-loop-p l = (j : ℕ) → j < l.p → word l.after j ≡ word l.block j
