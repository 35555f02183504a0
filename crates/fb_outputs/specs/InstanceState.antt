-- What contracts see of an instance of a function block (PLCopen Motion Control Part 1, general
-- rules).
use Rattle.std.specs.Prelude.{Bool}
use Rattle.plc_types.specs.declared.kind.BlockKind.{BlockKind}
use Rattle.fb_outputs.specs.declared.instance.Progress.{Progress}

-- an instance: its kind, the Execute of its last call, what the last cycle found, and how far its
-- command is
pub record InstanceState : Type 0 where
  pub kind : BlockKind
  pub execute : Bool
  pub reached : Bool
  pub progress : Progress
