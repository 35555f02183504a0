-- An instance has a command exactly while it shows one.
pub mod Calls
pub mod Cycles
pub mod Opening
