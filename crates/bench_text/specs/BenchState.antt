-- What contracts see of a bench. This project's profile.
use Rattle.std.specs.Prelude.{◌≡◌, ◌≤◌, ◌<◌, List, length, All}
use Rattle.plc_types.specs.declared.axis.AxisDef.{AxisDef}
use Rattle.motion_history.specs.Calls.{IsCall}
pub use Rattle.motion_history.specs.Drives.{IsDrive}
use Rattle.motion_history.specs.Setup.{Setup, IsSetup}
use Rattle.motion_history.specs.declared.drives.DriveDef.{DriveDef}
use Rattle.motion_history.specs.declared.refused.TraceVersion.{TraceVersion}
use Rattle.motion_history.specs.declared.refused.TraceVersion.TheVariants.{One}
use Rattle.bench_text.specs.declared.bench.BenchLine.{BenchLine}
use Rattle.bench_text.specs.declared.bench.BenchLine.TheVariants.{Call, Cycles, End}

-- a bench: its version, the configuration of its machine, the drive of each axis, and its lines of
-- events in their order
pub record BenchState : Type 0 where
  pub version : TraceVersion
  pub config : Setup
  pub drives : List DriveDef
  pub lines : List BenchLine

-- a line is one of this configuration: a call of one of its blocks, 1 to 200,000 cycles, or the end
-- of one of its tasks
abbrev pub IsLineOf : Setup → BenchLine → Type 0
IsLineOf s (Call k i) = IsCall s k i
IsLineOf s (Cycles n) = (1 ≤ n) × (n ≤ 200000)
IsLineOf s (End t) = t < length s.tasks

-- an axis brakes as hard as it speeds up, as version 1 has it
abbrev pub BrakesAsItSpeedsUp : AxisDef → Type 0
BrakesAsItSpeedsUp d = d.limits.dmax ≡ d.limits.amax

-- a bench is whole: it has a configuration, a drive for each of its axes, and lines of this
-- configuration; in version 1 each axis brakes as hard as it speeds up
pub record IsBench (b : BenchState) : Type 0 where
  pub setup : IsSetup b.config
  pub each : length b.drives ≡ length b.config.axes
  pub drives : All IsDrive b.drives
  pub lines : All (IsLineOf b.config) b.lines
  pub braking : b.version ≡ One → All BrakesAsItSpeedsUp b.config.axes
