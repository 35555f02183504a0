pub mod Plans
pub mod Given
pub mod Causes
pub mod Switched
pub mod Ends
