pub mod Draws
pub mod Machine
pub mod Rounds
pub mod Load
pub mod Counts
pub mod Lines
pub mod Ends
