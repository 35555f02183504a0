pub mod Digits
pub mod Parts
pub mod Written
pub mod Places
pub mod RoundTrip
pub mod Shortest
pub mod Spelled
