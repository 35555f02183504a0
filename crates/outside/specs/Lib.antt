pub mod Faults
pub mod Gates
pub mod MemoryFiles
pub mod MemorySink
pub mod Started
pub mod Threads
pub mod Told
