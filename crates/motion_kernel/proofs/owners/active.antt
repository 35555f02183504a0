-- How many commands of an instance are active, by each call.
pub mod AxisCounts
pub mod GroupCounts
