pub mod Braking
pub mod Sums
pub mod Rates
pub mod Admissible
pub mod Taken
