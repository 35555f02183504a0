pub mod WordList
pub mod Args
pub mod Numbers
pub mod Requests
pub mod Commands
