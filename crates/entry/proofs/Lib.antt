pub mod Ways
pub mod Debug
pub mod Masks
pub mod Targets
pub mod Entered
pub mod Keeps
