pub mod Axis
pub mod Group
pub mod Laws
pub mod Few
