-- A refused call changes nothing but its instance.
pub mod Instances
pub mod Calls
