-- Which axes are in which group, and where.
pub mod Members
pub mod Laid
