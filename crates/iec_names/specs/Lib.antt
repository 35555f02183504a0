pub mod Indexes
pub mod Scopes
pub mod Tables
