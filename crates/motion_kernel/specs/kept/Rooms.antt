-- The room that a history has.
use Rattle.std.specs.Prelude.{◌≡◌, [], length}
use Rattle.motion_history.specs.Entries.{HistoryState}
use Rattle.motion_history.specs.Setup.{Setup}

-- the history has the configuration's room, and no cycle is in the making
pub record HasRoom (s : Setup) (h : HistoryState) : Type 0 where
  pub axes : h.axes ≡ length s.axes
  pub groups : h.groups ≡ length s.groups
  pub room : h.room ≡ s.entries
  pub cycles : h.cycles ≡ s.cycles
  pub rows : h.rows ≡ []
  pub group_rows : h.group_rows ≡ []
