-- Where the commands of instances are.
pub mod commands
pub mod active
pub mod Events
pub mod Kept
pub mod Holders
pub mod Shown
pub mod kinds
