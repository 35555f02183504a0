-- The invariant of the machine and of the kernel.
pub mod Machine
pub mod Ready
pub mod Rooms
pub mod Segmented
pub mod Kernel
