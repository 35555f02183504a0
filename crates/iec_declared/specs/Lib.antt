pub mod Constants
pub mod Stand
pub mod Declarations
pub mod Enumerations
pub mod Noted
pub mod Types
