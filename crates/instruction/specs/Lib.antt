pub mod Encoding
pub mod Instruction
pub mod Places
pub mod Theorems
