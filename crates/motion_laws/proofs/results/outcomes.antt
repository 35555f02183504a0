-- What each entry makes of the command of an instance.
pub mod Notes
pub mod Leaves
pub mod Final
pub mod Cycles
pub mod Shown
pub mod Others
pub mod Own
pub mod Entries
pub mod Histories
pub mod Fates
pub mod Done
pub mod Doing
pub mod NotDone
pub mod DoneBy
