pub mod Filled
pub mod Telling
pub mod Batching
pub mod Batches
pub mod Guests
pub mod Sessions
pub mod References
