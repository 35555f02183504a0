pub mod Uses
pub mod Verified
