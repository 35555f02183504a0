pub mod Folds
pub mod Followers
pub mod UnderWay
