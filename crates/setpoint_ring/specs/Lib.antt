pub mod Order
pub mod Sides
pub mod Beside
pub mod Inside
