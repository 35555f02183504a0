-- What brings axes and groups their errors, by number.
pub mod Axis
pub mod Group
pub mod Rows
