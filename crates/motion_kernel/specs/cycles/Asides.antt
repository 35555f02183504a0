-- What a cycle asks of the room that is taken at opening.
use Rattle.std.specs.Prelude.{◌≡◌, ◌<◌, [], length}
use Rattle.motion_history.specs.Entries.{HistoryState, cycles_of}
use Rattle.motion_history.specs.Setup.{Setup}
use Rattle.motion_kernel.specs.declared.machine_cycle.Aside.{Aside}

-- there is a place for each axis and each group
pub record HasPlaces (s : Setup) (a : Aside) : Type 0 where
  pub axes : length a.pairs.items ≡ length s.axes
  pub groups : length a.steps.items ≡ length s.groups

-- the history has rows for each axis and each group in a cycle more, and none of them so far
pub record MayTakeCycle (s : Setup) (h : HistoryState) : Type 0 where
  pub axes : h.axes ≡ length s.axes
  pub groups : h.groups ≡ length s.groups
  pub cycle : cycles_of h.entries < h.cycles
  pub rows : h.rows ≡ []
  pub group_rows : h.group_rows ≡ []
