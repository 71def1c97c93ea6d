pub mod Tables
pub mod Tests
pub mod Reading
pub mod Writing
pub mod Theorems
