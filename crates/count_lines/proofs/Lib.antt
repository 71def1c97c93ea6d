pub mod Pushing
pub mod Lining
pub mod Theorems
