pub mod Faults
pub mod TableTests
