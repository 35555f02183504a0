pub mod Runs
pub mod Reaches
pub mod Searches
