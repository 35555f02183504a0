pub mod Elementary
pub mod Functions
pub mod Motion
pub mod ReadBack
pub mod Standard
