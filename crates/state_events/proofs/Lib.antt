mod axis
pub mod group
