-- What brings axes and groups their errors.
pub mod Answers
pub mod Wishes
pub mod AxisCycles
pub mod Calls
pub mod Exactly
pub mod Cycles
pub mod GroupNotes
pub mod Reported
pub mod Histories
