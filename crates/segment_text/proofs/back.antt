-- What was written is read back, and what was read is spelled so.
pub mod Columns
pub mod Commands
pub mod Axes
pub mod Paths
pub mod Groups
pub mod Instances
pub mod Plain
pub mod Lines
pub mod Shorts
pub mod Leads
pub mod Heads
pub mod Whole
pub mod Lists
pub mod Text
pub mod Parts
pub mod Spelled
