-- Which ends the instances are notified.
pub mod Events
pub mod Cycles
pub mod Spared
pub mod outcomes
pub mod Outputs
pub mod Answered
pub mod Told
pub mod Comes
pub mod Replied
pub mod Stays
pub mod Targets
pub mod KindEnds
