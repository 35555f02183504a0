pub mod Plans
pub mod Again
pub mod Machines
pub mod Given
pub mod Causes
pub mod Headline
pub mod Ends
