pub mod Failing
pub mod Axis
pub mod Group
pub mod Laws
pub mod Fates
