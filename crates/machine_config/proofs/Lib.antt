pub mod Views
pub mod Colons
pub mod Kept
pub mod ItemLaws
pub mod Told
pub mod Items
pub mod Configured
pub mod SomeAxis
