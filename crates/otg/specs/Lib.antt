pub mod Open
pub mod Own
pub mod Runs
