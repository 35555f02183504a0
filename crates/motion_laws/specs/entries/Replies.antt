-- What the replies of a history report (PLCopen Motion Control Part 1, general rules).
use Rattle.std.specs.Prelude.{◌≡◌, ℕ, ◌&&◌, true, Some, List, slice_get}
use Rattle.std.specs.List.{AllByRecursion}
use Rattle.plc_types.specs.declared.kind.BlockKind.{BlockKind}
use Rattle.fb_outputs.specs.InstanceState.{InstanceState}
use Rattle.fb_outputs.specs.Replies.{Happening, IsNumbered, IsReply, after_all, is_error_number}
use Rattle.fb_outputs.specs.Steps.{is_stop, opened}
use Rattle.plc_types.specs.declared.inputs.Inputs.{Inputs}
use Rattle.plc_types.specs.declared.outputs.Outputs.{Outputs}
use Rattle.motion_history.specs.Setup.{Setup}
use Rattle.motion_history.specs.declared.config.BlockDef.{BlockDef}
use Rattle.motion_kernel.specs.Machine.{instance_at}

-- a block's reply reports one result and one state, a Stop's alone two while its Execute is true;
-- an error has the number of a refusal or of an axis error, and no number stands without an error
pub record IsReplyOf (b : BlockDef) (i : Inputs) (o : Outputs) : Type 0 where
  pub single : IsReply (is_stop b.kind && i.execute) o
  pub numbered : o.error ≡ true → is_error_number o.error_id ≡ true

-- an instance of this kind, to which calls, starts, ends, cycles and replies have happened, each
-- end by an error with its number
pub record HasHappened (kind : BlockKind) (i : InstanceState) : Type 0 where
  pub happenings : List Happening
  pub numbered : AllByRecursion IsNumbered happenings
  pub is : i ≡ after_all (opened kind) happenings

-- each instance is one of its block's kind, and nothing else has happened to it
abbrev pub AreOfBlocks : Setup → List InstanceState → Type 0
AreOfBlocks s instances = (k : ℕ) (b : BlockDef) → slice_get s.blocks k ≡ Some b →
    HasHappened b.kind (instance_at instances k)
