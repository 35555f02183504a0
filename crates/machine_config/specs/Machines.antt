-- The invariant of a machine that a configuration makes, as its items are added and at the end.
-- This project's profile.
use Rattle.std.specs.Prelude.{◌≡◌, ◌≢◌, ◌≤◌, All, [], length}
use Rattle.motion_history.specs.Drives.{IsDrive}
use Rattle.motion_history.specs.declared.refused.TraceVersion.TheVariants.{One}
use Rattle.machine_config.specs.declared.machine.Machine.{Machine}

-- it is of version 2 or 3, its cycle has 100 to 100,000 microseconds, there is a drive for each
-- axis, each in its ranges, and there are no tasks and no blocks
pub record IsUnderWay (m : Machine) : Type 0 where
  pub version : m.version ≢ One
  pub shortest : 100 ≤ m.cycle_us
  pub longest : m.cycle_us ≤ 100000
  pub each : length m.drives ≡ length m.config.axes
  pub drives : All IsDrive m.drives
  pub tasks : m.config.tasks ≡ []
  pub blocks : m.config.blocks ≡ []

-- the same at the end, where it has an axis
pub record IsMachine (m : Machine) : Type 0 where
  pub under_way : IsUnderWay m
  pub some_axis : 1 ≤ length m.config.axes
