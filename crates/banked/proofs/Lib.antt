pub mod Cells
pub mod Rights
pub mod Reasons
