pub mod HeldLaws
pub mod EndLaws
pub mod CauseLaws
pub mod HeadlineLaws
