pub mod Wrapping
pub mod Division
pub mod Bounds
pub mod EveryType
pub mod Held
pub mod Called
pub mod Orders
pub mod Exact
