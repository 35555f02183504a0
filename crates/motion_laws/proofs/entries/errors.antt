-- Rows show errors exactly in the states of errors.
pub mod Laws
pub mod Calls
pub mod Cycles
pub mod Histories
