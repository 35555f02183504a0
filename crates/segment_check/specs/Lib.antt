pub mod Queued
pub mod Flaws
pub mod Begun
pub mod Next
pub mod Verified
pub mod Rows
pub mod Own
pub mod Headers
