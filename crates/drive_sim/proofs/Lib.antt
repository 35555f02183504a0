pub mod FaultLemmas
pub mod RunLemmas
pub mod LagLemmas
pub mod StepLemmas
