pub mod Recorded
pub mod Theorems
