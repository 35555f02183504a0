-- Commands are of the kinds of their instances' blocks.
pub mod Kept
