-- What the proofs of several functions share.
pub mod Concluding
pub mod Turns
