-- By what each layout sees: the old one a check as it is, the new one what a direct step sees.
use mathlib.Core.Path.{refl}
use Rattle.rules.specs.Known.{seen}
use Rattle.machine.proofs.Lines as machine
use Rattle.records.specs.Lines.{LinesByLayout}

pub theorems : LinesByLayout
unfolding seen
theorems =
    record {
      old_as_before = λ b e. (refl, refl);
      old_checks = λ b lines w. (refl, refl);
      new_refuses = (machine.theorems).retired;
      new_is_direct = λ b e. (refl, refl);
    }
