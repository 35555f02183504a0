-- Where a bench stands after some of its lines. This project's profile.
use Rattle.std.specs.Prelude.{ℕ, Bool, List}
use Rattle.motion_history.specs.Setup.{Setup}
use Rattle.motion_history.specs.declared.drives.DriveDef.{DriveDef}
use Rattle.motion_history.specs.declared.refused.TraceVersion.{TraceVersion}
use Rattle.bench_text.specs.declared.bench.BenchLine.{BenchLine}
use Rattle.bench_text.specs.declared.form.Part.{Part}

-- a bench as far as it was read: the part in which it stands, its version, whether it has a line of
-- limits, its machine, the axes' drives, the axes whose drives it states, and its events
pub record SoFar : Type 0 where
  pub part : Part
  pub version : TraceVersion
  pub limited : Bool
  pub setup : Setup
  pub drives : List DriveDef
  pub stated : List ℕ
  pub lines : List BenchLine
