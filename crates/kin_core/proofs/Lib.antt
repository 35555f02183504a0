pub mod Cuts
pub mod Moves
pub mod SafeSteps
pub mod Sizes
pub mod Stops
pub mod TowardZero
