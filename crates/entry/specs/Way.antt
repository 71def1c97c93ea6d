-- What a synchronous event or an interrupt comes to (document 01, "Routing").
use Rattle.std.specs.Prelude.{ℕ}

-- it is barred, and refused with this number; or it enters a mode at an offset, with a word for its return address
pub data Way : Type 0 where
  Barred : ℕ → Way
  Enter : ℕ → ℕ → ℕ → Way
