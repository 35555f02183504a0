pub mod OnLaws
pub mod WatchLaws
pub mod SwitchLaws
pub mod SpelledSwitches
pub mod EdgeLaws
