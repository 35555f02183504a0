pub mod Beginnings
pub mod Jobs
pub mod Writes
