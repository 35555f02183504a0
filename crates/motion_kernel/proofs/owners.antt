-- Whose commands are where.
pub mod Counts
pub mod commands
pub mod active
pub mod kinds
pub mod Opening
pub mod Blocks
pub mod Alone
