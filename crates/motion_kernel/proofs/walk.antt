-- The walk through calls and cycles, by the changes of commands.
pub mod Keeps
pub mod Events
pub mod Asked
pub mod Calls
pub mod Cycles
pub mod ByTest
pub mod Requests
