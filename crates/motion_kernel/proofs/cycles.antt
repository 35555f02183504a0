-- What a cycle makes of the machine.
pub mod Steps
pub mod Rows
pub mod Entries
pub mod Polled
pub mod OneAxis
