-- What a look at a machine decides holds after every past.
pub mod Orders
pub mod Steered
pub mod Axes
pub mod Groups
pub mod Kept
