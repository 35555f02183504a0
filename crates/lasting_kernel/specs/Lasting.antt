-- A kernel that runs for as long as one likes: with its last segment goes all that was before it,
-- of which nothing is in memory. This project's profile.
use Rattle.std.specs.Prelude.{◌≡◌, List, [], ◌∷◌, ◌++◌, length}
use Rattle.motion_history.specs.Entries.{Entry, cycles_of}
use Rattle.motion_history.specs.Setup.{Setup}
use Rattle.motion_kernel.specs.Segments.{SegmentedState, after_segment, at_opening, counted_on, machine_now}
use Rattle.motion_kernel.specs.Histories.{IsPast, machine_from}
use Rattle.motion_kernel.specs.Machine.{machine_at_opening}

-- a kernel with all entries before its segment
pub record LastingState : Type 0 where
  pub kernel : SegmentedState
  pub past : List Entry

-- all entries so far: those before the segment, and the segment's, their cycles counted on
abbrev pub whole_of : LastingState → List Entry
whole_of k = k.past ++ counted_on (cycles_of k.past) k.kernel.history

-- such a kernel at opening
abbrev pub opened : Setup → LastingState
opened s = record { kernel = at_opening s; past = [] }

-- such a kernel with one entry more
abbrev pub with_entry : LastingState → Entry → LastingState
with_entry k e = record k { kernel = record k.kernel { history = k.kernel.history ++ e ∷ [] } }

-- such a kernel that gave its segment out and goes on with an empty one
abbrev pub after_hand_over : LastingState → LastingState
after_hand_over k = record {
  kernel = record k.kernel {
    before = after_segment k.kernel;
    start = machine_now k.kernel;
    history = [];
  };
  past = whole_of k;
}

-- what was before the segment is the machine's from opening on, leads to the machine with which the
-- segment begins, and is counted
pub record HasPast (k : LastingState) : Type 0 where
  pub past : IsPast k.kernel.config k.past
  pub start : k.kernel.start
      ≡ machine_from k.kernel.config (machine_at_opening k.kernel.config) k.past
  pub entries : k.kernel.before.entries ≡ length k.past
  pub cycles : k.kernel.before.cycles ≡ cycles_of k.past
