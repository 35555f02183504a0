pub mod Waiting
pub mod Layout
pub mod Kept
pub mod Rates
