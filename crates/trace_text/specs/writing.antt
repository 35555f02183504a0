-- What is written of a trace, and where a writer is between two records.
pub mod Between
pub mod Writes
pub mod Parts
