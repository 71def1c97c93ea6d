pub mod Claims
pub mod RoundTrip
pub mod Guest
pub mod Lines
