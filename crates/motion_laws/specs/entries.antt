-- What each entry of a past keeps.
pub mod Refusals
pub mod Replies
pub mod AxisEvents
pub mod GroupEvents
pub mod Events
pub mod Rows
pub mod Errors
pub mod Numbers
pub mod Kept
