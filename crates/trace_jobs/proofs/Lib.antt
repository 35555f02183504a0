pub mod Joined
pub mod HistoryLaws
pub mod CauseLaws
pub mod MigratedLaws
pub mod EndLaws
