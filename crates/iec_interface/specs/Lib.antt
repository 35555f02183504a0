pub mod Inputs
pub mod Objects
pub mod Outputs
pub mod ReadBack
pub mod Words
