pub mod MoveStep
pub mod VelocityStep
pub mod CyclesBound
pub mod MoveRun
