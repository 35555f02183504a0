-- The changes of an axis.
pub mod Calls
pub mod Cycles
