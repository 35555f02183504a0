pub mod CommandState
pub mod Changes
pub mod Brought
pub mod Calls
pub mod Fates
pub mod Ends
pub mod Laws
