-- A history in segments: the kernel holds the last one, which begins with the machine that those
-- before it lead to. This project's profile.
use Rattle.std.specs.Prelude.{◌≡◌, ℕ, ◌+◌, ◌<◌, ◌^◌, List, [], length, map}
use Rattle.motion_history.specs.Entries.{Entry, HistoryState, call, cycle, cycles_of, end_of}
use Rattle.motion_history.specs.Setup.{IsSetup, Setup}
use Rattle.motion_kernel.specs.Histories.{machine_from}
use Rattle.motion_kernel.specs.Machine.{Machine, machine_at_opening}
use Rattle.motion_kernel.specs.declared.segment.Segment.{Segment}
use Rattle.motion_kernel.specs.declared.segment.Before.{Before}
use Rattle.motion_kernel.specs.kept.Machine.{IsSized}

-- nothing was before
abbrev pub nothing_before : Before
nothing_before = record { segments = 0; entries = 0; cycles = 0 }

-- a kernel whose history is in segments: its configuration, what was before the last segment, the
-- machine with which that begins, and its entries
pub record SegmentedState : Type 0 where
  pub config : Setup
  pub before : Before
  pub start : Machine
  pub history : List Entry

-- such a kernel at opening
abbrev pub at_opening : Setup → SegmentedState
at_opening s = record {
  config = s;
  before = nothing_before;
  start = machine_at_opening s;
  history = [];
}

-- the machine that it is: the replay of its segment from where that begins
abbrev pub machine_now : SegmentedState → Machine
machine_now k = machine_from k.config k.start k.history

-- what is before the next segment
abbrev pub after_segment : SegmentedState → Before
after_segment k = record {
  segments = k.before.segments + 1;
  entries = k.before.entries + length k.history;
  cycles = k.before.cycles + cycles_of k.history;
}

-- so little was before that more can be counted
pub record IsEarly (b : Before) : Type 0 where
  pub segments : b.segments < 2 ^ 63
  pub entries : b.entries < 2 ^ 63
  pub cycles : b.cycles < 2 ^ 63

-- an empty history with the whole room of a configuration
abbrev pub empty_history : Setup → HistoryState
empty_history s = record {
  axes = length s.axes;
  groups = length s.groups;
  room = s.entries;
  cycles = s.cycles;
  entries = [];
  rows = [];
  group_rows = [];
}

-- a segment of a sound configuration that was never used: it begins at opening, with nothing before
-- it
pub record IsUnused (s : Setup) (b : Segment) : Type 0 where
  pub setup : IsSetup s
  pub before : b.before ≡ nothing_before
  pub start : b.start ≡ machine_at_opening s
  pub history : b.history ≡ empty_history s

-- a segment may be taken by a kernel of a configuration: it is empty, and has room for its machine
pub record IsSpare (s : Setup) (b : Segment) : Type 0 where
  pub start : IsSized s b.start
  pub history : b.history ≡ empty_history s

-- a segment is the one that a kernel held, and a spare one again once its history is cleared
pub record IsHeldSegment (k : SegmentedState) (b : Segment) : Type 0 where
  pub before : b.before ≡ k.before
  pub start : b.start ≡ k.start
  pub entries : b.history.entries ≡ k.history
  pub cleared : IsSpare k.config (record b {
    history = record b.history { entries = []; rows = []; group_rows = [] };
  })

-- an entry whose cycle is counted on after this many
abbrev pub numbered_on : ℕ → Entry → Entry
numbered_on n (call k inputs reply) = call k inputs reply
numbered_on n (cycle number rows grows) = cycle (n + number) rows grows
numbered_on n (end_of task) = end_of task

-- the entries of a segment, its cycles counted on after those of the segments before it
unfoldable pub counted_on : ℕ → List Entry → List Entry
counted_on n es = map (numbered_on n) es
