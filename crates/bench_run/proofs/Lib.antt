pub mod RunLaws
pub mod StepLaws
pub mod EnoughLaws
pub mod EndingLaws
