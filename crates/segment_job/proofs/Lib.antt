pub mod CauseLaws
pub mod EndLaws
pub mod TraceSegmentBegins
pub mod TraceBegins
