-- By which ErrorID a call is refused.
pub mod First
pub mod Axis
pub mod Group
pub mod Calls
