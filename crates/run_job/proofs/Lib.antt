pub mod RowLaws
pub mod CauseLaws
pub mod HeadlineLaws
pub mod RunLaws
