pub mod Enable
pub mod Halts
pub mod Line
pub mod Reset
