pub mod Differing
pub mod Before
pub mod Explaining
pub mod Wrong
pub mod Explains
pub mod Theorems
