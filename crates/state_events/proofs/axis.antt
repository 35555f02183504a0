-- The events of an axis.
pub mod Rows
pub mod Failing
pub mod Ends
pub mod Calls
pub mod Cycles
pub mod Few
