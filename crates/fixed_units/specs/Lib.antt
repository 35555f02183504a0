pub mod Numbers
pub mod PerCycle
pub mod Spelling
