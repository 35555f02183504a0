pub mod Fields
pub mod Columns
pub mod ReadBack
pub mod Records
