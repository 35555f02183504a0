pub mod Wanted
pub mod Directed
