pub mod InstanceState
pub mod Steps
pub mod Replies
