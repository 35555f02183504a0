-- What a group's look shows.
pub mod GroupLooks
pub mod Shown
