-- How a kernel is kept whose history is in segments: the machine's parts beside the segment of
-- which they are the replay.
use Rattle.std.specs.Prelude.{◌≡◌}
use Rattle.motion_kernel.specs.Segments.{SegmentedState, machine_now}
use Rattle.motion_kernel.specs.cycles.Asides.{HasPlaces}
use Rattle.motion_kernel.specs.Histories.{IsLegalFrom}
use Rattle.motion_kernel.specs.kept.Machine.{AreWhole, IsMachineKept, IsSized}
use Rattle.motion_kernel.specs.kept.Rooms.{HasRoom}
use Rattle.motion_kernel.specs.owners.Blocks.{OwnersHaveBlocks}
use Rattle.motion_kernel.specs.Seen.{machine_of}
use Rattle.motion_kernel.specs.declared.segmented.SegmentedKernel.TheInside.{Inside}

-- what contracts see of a kernel that is kept so
abbrev pub seen_of : Inside → SegmentedState
seen_of k = record {
  config = k.layout;
  before = k.segment.before;
  start = k.segment.start;
  history = k.segment.history.entries;
}

-- the parts are those of the machine that the segment leads to, the segment is legal and has its
-- room, and there is a place for each axis and each group
pub record IsSegmentedKept (k : Inside) : Type 0 where
  pub replayed : machine_of k.parts ≡ machine_now (seen_of k)
  pub legal : IsLegalFrom k.layout k.segment.start k.segment.history.entries
  pub machine : IsMachineKept k.layout (machine_of k.parts)
  pub owners : OwnersHaveBlocks k.layout (machine_of k.parts)
  pub start : IsSized k.layout k.segment.start
  pub whole : AreWhole k.layout
  pub room : HasRoom k.layout k.segment.history
  pub places : HasPlaces k.layout k.aside
