pub mod Blends
pub mod Sums
pub mod BlendStep
pub mod BlendRun
