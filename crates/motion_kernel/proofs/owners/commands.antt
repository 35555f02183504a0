-- What events and calls leave of the commands that instances show.
pub mod Events
pub mod Freed
pub mod Asked
