-- Which ends the instances are notified.
pub mod Effects
pub mod Outcomes
pub mod Results
pub mod Comes
pub mod Targets
pub mod KindEnds
