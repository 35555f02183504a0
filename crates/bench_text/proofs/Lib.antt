pub mod Calls
pub mod Items
pub mod Kept
pub mod SpelledBenches
