pub mod Bumping
pub mod Codes
pub mod Tallying
pub mod Adding
pub mod Reading
pub mod Summing
pub mod Answered
pub mod Theorems
