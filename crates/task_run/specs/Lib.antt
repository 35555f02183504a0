pub mod Written
pub mod Tasks
pub mod Standing
pub mod Runs
pub mod Callers
pub mod TaskCalls
