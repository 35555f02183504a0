-- What a call asks for, and of which machine (PLCopen Motion Control Part 1, general rules).
use Rattle.std.specs.Prelude.{ℕ, Bool, if◌then◌else◌, Option, Some, None}
use Rattle.plc_types.specs.Kinds.{acts_on_group}
use Rattle.plc_types.specs.declared.kind.BlockKind.{BlockKind}
use Rattle.fb_outputs.specs.Steps.{edge_of, is_power}
use Rattle.plc_types.specs.declared.inputs.Inputs.{Inputs}
use Rattle.fb_outputs.specs.declared.instance.Edge.{Edge}
use Rattle.fb_outputs.specs.declared.instance.Edge.TheVariants as edge
use Rattle.motion_history.specs.declared.config.BlockDef.{BlockDef}
use Rattle.motion_kernel.specs.Machine.{Machine, instance_at}
use Rattle.motion_kernel.specs.calls.Calls.{with_execute, without_owner}

-- what a call asks for
pub data Request : Type 0 where
  -- nothing
  for_nothing : Request
  -- power of an axis, on or off
  for_power : ℕ → Bool → Request
  -- a command of the block's axis
  for_axis_command : BlockDef → Request
  -- a command of the block's group
  for_group_command : BlockDef → Request

-- a rising edge asks for a command, other calls ask for nothing
abbrev pub request_by_edge : Edge → BlockDef → Request
request_by_edge edge.Rising b =
    if acts_on_group b.kind then for_group_command b else for_axis_command b
request_by_edge e b = for_nothing

-- but a Power asks for power at every call
abbrev pub request_by_kind : BlockKind → Edge → BlockDef → Bool → Request
request_by_kind kind e b enable =
    if is_power kind then for_power b.object enable else request_by_edge e b

-- a block that is not there asks for nothing
abbrev pub request_of : Option BlockDef → ℕ → Inputs → Machine → Request
request_of None k i m = for_nothing
request_of (Some b) k i m =
    let e = edge_of (instance_at m.instances k).execute i.execute in
    request_by_kind b.kind e b i.execute

-- the machine that is asked: where a command is asked for, the instance's earlier one is its own no
-- longer
abbrev pub machine_asked : Request → ℕ → Inputs → Machine → Machine
machine_asked for_nothing k i m = with_execute k i m
machine_asked (for_power n enable) k i m = with_execute k i m
machine_asked (for_axis_command b) k i m = without_owner k (with_execute k i m)
machine_asked (for_group_command b) k i m = without_owner k (with_execute k i m)
