-- Limits that are kept, and commands that wait.
pub mod Places
pub mod CycleRows
pub mod Rows
pub mod Stoppable
pub mod Waiting
pub mod DriveRows
pub mod Drives
