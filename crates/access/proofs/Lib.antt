pub mod Access
pub mod Noting
