pub mod Plans
pub mod Causes
pub mod Again
pub mod Headline
pub mod Ends
