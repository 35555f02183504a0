-- What a call asks of an axis, and of a group.
pub mod Axis
pub mod Group
