pub mod Finite
pub mod LowBits
pub mod Told
pub mod Given
pub mod Steps
pub mod Commands
