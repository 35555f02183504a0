pub mod Plans
pub mod Causes
pub mod Scoped
pub mod Ends
