pub mod Lines
pub mod Plans
pub mod Verified
pub mod Causes
pub mod Migrated
pub mod Ends
