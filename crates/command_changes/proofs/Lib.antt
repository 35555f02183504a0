mod Choices
mod Alike
mod Fates
pub mod axis
pub mod group
