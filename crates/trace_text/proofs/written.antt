-- The text of a trace, part by part, and as it is put out.
pub mod Texts
pub mod Numbered
pub mod Joined
pub mod Padding
pub mod Writing
