-- The walk through histories, by that of motion_kernel through calls and cycles; and through a call
-- by the core of one axis and of one group; what a call leaves of an axis.
pub mod Histories
pub mod AxisCalls
pub mod GroupCalls
pub mod Stays
