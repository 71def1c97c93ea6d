pub mod Cell
pub mod Right
pub mod Claims
pub mod Parts
