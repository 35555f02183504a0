pub mod Begins
pub mod Plans
pub mod Causes
pub mod Ends
pub mod Apart
