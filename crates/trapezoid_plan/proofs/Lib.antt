pub mod StepsAhead
pub mod VelocitySteps
pub mod MoveSteps
pub mod TakenMoves
pub mod Headings
pub mod Arrivals
pub mod Rests
pub mod Bounds
