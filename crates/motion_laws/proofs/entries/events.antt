-- The states change by their events.
pub mod Laws
pub mod AxisCalls
pub mod GroupCalls
pub mod Cycles
pub mod Histories
