-- The code's name of a layout: whether it is that of the old one, and the layout itself.
use Rattle.std.specs.Prelude.{Bool, true, false}
use Rattle.records.specs.Layout as theory
pub use Rattle.records.specs.declared.layout.Layout.{Layout}
pub use Rattle.records.specs.declared.layout.Layout.TheVariants.{Old, New}

abbrev pub old : Layout → Bool
old Old = true
old New = false

abbrev pub its : Layout → theory.Layout
its layout = theory.layout (old layout)
