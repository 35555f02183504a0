pub mod Plans
pub mod Ends
pub mod Files
pub mod Causes
pub mod Exits
pub mod Readings
pub mod Courses
pub mod Machines
