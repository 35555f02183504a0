pub mod Verdicts
pub mod GivenLaws
pub mod EndLaws
