pub mod Order
pub mod Owners
pub mod Counts
pub mod Apart
pub mod Holders
pub mod Waiting
pub mod Fates
pub mod Ends
