pub mod Chains
pub mod Ahead
pub mod Reading
pub mod Spelled
