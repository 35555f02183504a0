-- An instance shows Active exactly while its command is the active one.
pub mod Events
pub mod Calls
pub mod Waiting
pub mod Told
pub mod Cycles
