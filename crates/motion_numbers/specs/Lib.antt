pub mod Ranges
pub mod Greatest
pub mod Run
pub mod Laws
