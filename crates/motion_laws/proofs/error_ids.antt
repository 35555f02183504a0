-- By which ErrorID a call is refused.
pub mod Tests
pub mod Axes
pub mod Groups
pub mod Calls
