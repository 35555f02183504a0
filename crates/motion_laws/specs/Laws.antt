-- What every past keeps.
use Rattle.std.specs.Prelude.{◌≡◌, List, ◌++◌}
use Rattle.motion_laws.specs.limits.Drives.{RowsAreDriven, SpellsBeginAtDrives, TargetsFollowSetpoints}
use Rattle.motion_laws.specs.limits.Rows.{KeepTheirLimits}
use Rattle.motion_history.specs.Entries.{Entry}
use Rattle.motion_history.specs.Setup.{Setup}
use Rattle.motion_kernel.specs.Counted.{RowsAreCounted}
use Rattle.motion_kernel.specs.Histories.{machine_after}
use Rattle.motion_laws.specs.arrivals.Along.{RowsFollow}
use Rattle.motion_laws.specs.arrivals.Braking.{GroupHaltsSlow}
use Rattle.motion_laws.specs.arrivals.Moves.{MovesArrive}
use Rattle.motion_laws.specs.arrivals.Rows.{RowsStand}
use Rattle.motion_laws.specs.arrivals.Slowing.{HaltsSlow}
use Rattle.motion_laws.specs.causes.Rows.{ErrorsAreBrought}
use Rattle.motion_laws.specs.error_ids.Calls.{RefusalsAreFirst}
use Rattle.motion_laws.specs.entries.Kept.{KeepsEntries}
use Rattle.motion_laws.specs.arrivals.Paths.{PathsEnd}
use Rattle.motion_laws.specs.results.Comes.{ResultsCome, ResultsGo, ResultsStay}
use Rattle.motion_laws.specs.results.KindEnds.{EndByKinds}
use Rattle.motion_laws.specs.results.Results.{ResultsAreTold}
use Rattle.motion_laws.specs.results.Targets.{MovesEndThere}
use Rattle.motion_laws.specs.limits.Safe.{IsSafe}

-- each row keeps its axis's limits; the machine is safe after every entry; every entry keeps the
-- laws of entries; the commands that lead an axis or a group to an end come there in time; each
-- entry makes of each instance what its commands give, and each end is reported; each result comes
-- of such an end, stays while Execute is true, and goes with it; commands end by their kinds; a
-- move is Done at its target; rows show that moves, Halts and Stops end in time; the places of each
-- row's axis have counts; each error that a row shows has its cause; a call is refused by the first
-- ErrorID whose condition holds, and only then; rows slow down under a Halt, follow their group's
-- line, and slow down along it under a GroupHalt; the target that a drive is given is the count of
-- its row's setpoint; a driven spell begins at the place that the drive reported; and which rows
-- are driven
pub record KeepsLaws (s : Setup) (es : List Entry) : Type 0 where
  pub limits : KeepTheirLimits s es
  pub safe : (made more : List Entry) → es ≡ made ++ more → IsSafe s (machine_after s made)
  pub entries : KeepsEntries s es
  pub moves : MovesArrive s es
  pub paths : PathsEnd s es
  pub results : ResultsAreTold s es
  pub origins : ResultsCome s es
  pub stay : ResultsStay s es
  pub go : ResultsGo s es
  pub kinds : EndByKinds s es
  pub targets : MovesEndThere s es
  pub rows : RowsStand s es
  pub counts : RowsAreCounted s es
  pub causes : ErrorsAreBrought s es
  pub refusals : RefusalsAreFirst s es
  pub halts : HaltsSlow s es
  pub lines : RowsFollow s es
  pub group_halts : GroupHaltsSlow s es
  pub drives : TargetsFollowSetpoints s es
  pub spells : SpellsBeginAtDrives s es
  pub driven : RowsAreDriven s es
