pub mod Lines
pub mod Tasks
pub mod Statements
pub mod Expressions
pub mod Table
