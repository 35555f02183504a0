-- Whose commands are where.
pub mod Objects
pub mod Blocks
pub mod Commands
pub mod Kinds
