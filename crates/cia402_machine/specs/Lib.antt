pub mod Words
pub mod Statusword
pub mod Controlword
pub mod Transitions
pub mod Steps
pub mod Commanded
