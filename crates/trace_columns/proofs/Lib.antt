pub mod NumberLaws
pub mod BackLaws
pub mod ShortLaws
pub mod HexLaws
mod WordLaws
pub mod RecordLaws
mod RecordSteps
