pub mod Lists
pub mod Numbers
pub mod Tasks
pub mod Ways
pub mod Spelled
pub mod Read
pub mod Programs
