pub mod Owners
pub mod Queue
mod TakenAway
mod Fates
