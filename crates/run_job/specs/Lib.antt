pub mod Plants
pub mod Plans
pub mod Causes
pub mod Headline
pub mod Joined
pub mod Ends
