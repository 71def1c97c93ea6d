pub mod Code
pub mod Offset
pub mod Way
pub mod Route
pub mod Enter
pub mod Parts
