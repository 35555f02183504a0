-- The changes of a group.
pub mod Calls
pub mod Cycles
