-- What a cycle makes of the machine.
pub mod Asides
pub mod Polled
pub mod GroupSteps
pub mod AxisCycles
pub mod GroupResets
pub mod Showing
pub mod Cycles
