-- What a block call asks for, and what it makes of the machine.
pub mod Telling
pub mod Asking
pub mod Calls
pub mod Requests
