mod Moves
mod Rooms
pub mod Totals
mod Turns
