pub mod Halts
pub mod Velocities
pub mod Headings
pub mod Units
pub mod Tight
pub mod Arrivals
pub mod Differences
