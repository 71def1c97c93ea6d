pub mod Exception
pub mod Kind
pub mod Masking
pub mod Takeable
pub mod Check
pub mod Decision
pub mod Former
pub mod Parts
