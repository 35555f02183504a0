-- The events of a group.
pub mod Events
pub mod Few
