-- When the commands of axes and groups come to their end, and what rows show of them.
pub mod AxisFates
pub mod GroupFates
pub mod Moves
pub mod Paths
pub mod Rows
pub mod Slowing
pub mod Along
pub mod Braking
