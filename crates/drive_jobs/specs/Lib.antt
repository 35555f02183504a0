pub mod Answered
pub mod Log
pub mod DriveLinkState
pub mod DriveLinkKept
