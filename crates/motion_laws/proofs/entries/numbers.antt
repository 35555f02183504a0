-- Errors are reported as they are shown.
pub mod Notes
pub mod Axes
pub mod Groups
pub mod Quiet
pub mod Calls
pub mod Cycles
pub mod Histories
