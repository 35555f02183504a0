-- When the commands of axes and groups come to their end.
pub mod MoveEvents
pub mod Moves
pub mod Paths
pub mod PathsDone
pub mod PathsEnd
pub mod Standing
pub mod Slowing
pub mod Along
pub mod Braking
