pub mod Level
pub mod Illegal
pub mod Return
pub mod Parts
