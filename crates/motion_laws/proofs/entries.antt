-- What each entry of a past keeps.
pub mod refusals
pub mod replies
pub mod events
pub mod rows
pub mod errors
pub mod numbers
pub mod Kept
