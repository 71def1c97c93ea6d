pub mod Levels
pub mod Sets
pub mod After
