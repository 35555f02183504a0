pub mod DriveLaws
pub mod Opening
pub mod EndsHeld
