-- The invariant of a bench as far as it was read. This project's profile.
use Rattle.std.specs.Prelude.{◌≡◌, ◌≤◌, true, false, [], length}
use Rattle.std.specs.List.{AllByRecursion}
use Rattle.motion_history.specs.Drives.{IsDrive}
use Rattle.motion_history.specs.declared.refused.TraceVersion.TheVariants.{One}
use Rattle.bench_text.specs.BenchState.{BrakesAsItSpeedsUp, IsLineOf}
use Rattle.bench_text.specs.Forms.{is_part}
use Rattle.bench_text.specs.SoFar.{SoFar}
use Rattle.bench_text.specs.declared.form.Part.TheVariants.{Start, Events}

-- there is a drive for each axis, each in its ranges; in version 1 each axis brakes as hard as it
-- speeds up; events come after the machine, which then has an axis, and are of this machine
pub record IsSoFar (s : SoFar) : Type 0 where
  pub each : length s.drives ≡ length s.setup.axes
  pub drives : AllByRecursion IsDrive s.drives
  pub none : is_part s.part Start ≡ true → s.setup.axes ≡ []
  pub braking : s.version ≡ One → AllByRecursion BrakesAsItSpeedsUp s.setup.axes
  pub before : is_part s.part Events ≡ false → s.lines ≡ []
  pub some : is_part s.part Events ≡ true → 1 ≤ length s.setup.axes
  pub lines : AllByRecursion (IsLineOf s.setup) s.lines
