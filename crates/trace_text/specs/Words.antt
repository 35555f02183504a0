-- The words of a trace that no other crate has. This project's profile.
use Rattle.std.specs.Prelude.{ℕ, List, codes}
use Rattle.motion_history.specs.declared.refused.TraceVersion.{TraceVersion}
use Rattle.motion_history.specs.declared.refused.TraceVersion.TheVariants.{One, Two, Three}
use Rattle.trace_text.specs.declared.command.Command.{Command}
use Rattle.trace_text.specs.declared.command.Command.TheVariants as command

-- the version of a trace
unfoldable pub version_text : TraceVersion → List ℕ
version_text One = codes "1"
version_text Two = codes "2"
version_text Three = codes "3"

-- the direction of an absolute move, in version 3. PLCopen Motion Control Part 1, the input
-- Direction
unfoldable pub shortest : List ℕ
shortest = codes "shortest"

-- who made a trace
unfoldable pub command_text : Command → List ℕ
command_text command.Bench = codes "bench"
command_text command.Run = codes "run"
