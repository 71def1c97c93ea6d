pub mod Choice
pub mod Place
pub mod Mode
pub mod Field
pub mod Number
pub mod Refusal
pub mod State
pub mod Parts
