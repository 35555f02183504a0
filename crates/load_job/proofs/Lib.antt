pub mod MachineLaws
pub mod LoadLaws
pub mod TallyLaws
pub mod EventLaws
pub mod EndLaws
