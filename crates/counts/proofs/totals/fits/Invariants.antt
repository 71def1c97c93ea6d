-- The flag says whether the sums below the place reached are words.
use mathlib.Core.Bool.{true}
use mathlib.Core.Logic.{◌↔◌}
use mathlib.Core.Path.{◌≡◌}
use Rattle.counts.proofs.Adding.{Below}
use Rattle.counts.proofs.totals.fits.Given as goal

abbrev pub invariant-loop-w : goal.invariant-loop-w
invariant-loop-w l = (l.fits ≡ true) ↔ Below l.counts l.gains l.w
