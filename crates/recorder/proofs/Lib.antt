pub mod Writing
pub mod Records
pub mod Checks
pub mod Reached
pub mod Theorems
