pub mod Explain
pub mod Claims
pub mod Theorems
pub mod Either
