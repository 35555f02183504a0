pub mod Merged
pub mod Cutting
pub mod Counted
pub mod Joined
pub mod Named
pub mod Said
