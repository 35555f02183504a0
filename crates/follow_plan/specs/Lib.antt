pub mod Cam
pub mod Floor
pub mod Gear
