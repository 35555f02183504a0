pub mod Layers
pub mod Fitting
pub mod Parts
pub mod Places
