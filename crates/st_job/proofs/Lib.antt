pub mod MachineLaws
pub mod TraceLaws
pub mod GivenLaws
pub mod CauseLaws
pub mod HeadlineLaws
