-- The room of a kernel's segment. This project's profile.
use Rattle.std.specs.Prelude.{◌<◌, length}
use Rattle.motion_kernel.specs.Segments.{SegmentedState}

-- a kernel's segment has room for an entry
abbrev pub HasRoom : SegmentedState → Type 0
HasRoom k = length k.history < k.config.entries
