-- machines_stay_kept: kept/, by calls in kept/Calls and kept/MayCall, by cycles in kept/Cycles
-- owners_have_blocks: owners/Blocks and Opening, by the walk; what a rising edge makes of it:
-- owners/Alone rows_are_counted: Counted, over calls/AxesLeft and cycles/OneAxis the kernels' own
-- answers: kept/Banked and Kernel, Marked, cycles/Entries segments_join: Segments what motion_laws
-- cites: Sizes, the walk, owners/, calls/, cycles/OneAxis and Rows, kept/, looks/Shown,
-- members/Places
pub mod Lists
pub mod Sizes
pub mod GroupParts
pub mod members
pub mod looks
pub mod calls
pub mod cycles
pub mod owners
pub mod walk
pub mod kept
pub mod Marked
pub mod Segments
pub mod Counted
