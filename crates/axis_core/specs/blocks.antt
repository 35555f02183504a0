-- The function blocks of an axis, one file each: which refusals are tested, by which event a
-- command becomes active, the step that it wants, how it ends, and what it shows.
pub mod Moves
pub mod Velocity
pub mod Gear
pub mod Cam
pub mod Halts
pub mod Home
pub mod Reset
pub mod Power
pub mod Path
