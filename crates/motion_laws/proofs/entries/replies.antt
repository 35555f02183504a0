-- Each reply reports one result.
pub mod AxisNumbers
pub mod GroupNumbers
pub mod Commands
pub mod Entries
pub mod Histories
pub mod Shows
