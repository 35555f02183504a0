-- Rows show the machine.
pub mod Cycles
pub mod Histories
