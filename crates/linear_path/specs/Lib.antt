pub mod Line
pub mod Path
pub mod Rates
