pub mod Buffer
pub mod Rows
pub mod Sound
pub mod Carrying
pub mod Deciding
pub mod Operands
