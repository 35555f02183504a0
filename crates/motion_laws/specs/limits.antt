-- Limits that are kept, and commands that wait.
pub mod Safe
pub mod Rows
pub mod Drives
