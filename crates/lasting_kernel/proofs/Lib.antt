-- what the kernel's methods keep: Pasts
pub mod Pasts
