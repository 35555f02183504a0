pub mod Faults
pub mod Sim
pub mod Steps
pub mod Runs
pub mod Inside
