-- What a call, a start, an end and a reply do to an instance (PLCopen Motion Control Part 1,
-- general rules).
use Rattle.std.specs.Prelude.{◌&&◌, Bool, true, false, not, if◌then◌else◌}
use Rattle.command_pool.specs.declared.ending.Finish.{Finish}
use Rattle.command_pool.specs.declared.ending.Finish.TheVariants as finish
use Rattle.plc_types.specs.declared.kind.BlockKind.{BlockKind}
use Rattle.plc_types.specs.declared.kind.BlockKind.TheVariants as kind
use Rattle.fb_outputs.specs.InstanceState.{InstanceState}
use Rattle.fb_outputs.specs.declared.instance.Edge.{Edge}
use Rattle.fb_outputs.specs.declared.instance.Edge.TheVariants.{Rising, High, Falling, Low}
use Rattle.fb_outputs.specs.declared.instance.Progress.{Progress}
use Rattle.fb_outputs.specs.declared.instance.Progress.TheVariants.{Idle, Waiting, Active, Ended}
use Rattle.plc_types.specs.declared.outputs.Outputs.{Outputs}

-- an instance that was not called yet
abbrev pub opened : BlockKind → InstanceState
opened k = record { kind = k; execute = false; reached = false; progress = Idle }

-- how Execute changed, from the last call's and this call's
abbrev pub edge_of : Bool → Bool → Edge
edge_of false true = Rising
edge_of true true = High
edge_of true false = Falling
edge_of false false = Low

-- whether it is a Power, whose Enable is taken at each call. PLCopen Motion Control Part 1,
-- MC_Power
abbrev pub is_power : BlockKind → Bool
is_power kind.Power = true
is_power _ = false

-- whether it holds its axis or group in stopping while its Execute is true. PLCopen Motion Control
-- Part 1, MC_Stop
abbrev pub is_stop : BlockKind → Bool
is_stop kind.Stop = true
is_stop kind.GroupStop = true
is_stop _ = false

-- what the last cycle found is forgotten at a rising edge, but by a Power
abbrev pub reached_after : BlockKind → Edge → Bool → Bool
reached_after k Rising reached = is_power k && reached
reached_after k High reached = reached
reached_after k Falling reached = reached
reached_after k Low reached = reached

-- a result that an earlier call showed goes with Execute false
abbrev pub without_shown : Progress → Progress
without_shown Idle = Idle
without_shown Waiting = Waiting
without_shown Active = Active
without_shown (Ended f false) = Ended f false
without_shown (Ended f true) = Idle

-- a rising edge takes the earlier command's owner and its result away
abbrev pub progress_after : Edge → Progress → Progress
progress_after Rising p = Idle
progress_after High p = p
progress_after Falling p = without_shown p
progress_after Low p = without_shown p

-- the instance after a call's Execute was taken
abbrev pub called : InstanceState → Bool → InstanceState
called i execute = record i {
  execute = execute;
  reached = reached_after i.kind (edge_of i.execute execute) i.reached;
  progress = progress_after (edge_of i.execute execute) i.progress;
}

-- the instance whose command became active, or waits
abbrev pub started : InstanceState → Bool → InstanceState
started i active = record i { reached = false; progress = if active then Active else Waiting }

-- the instance whose command ended, or whose call was refused
abbrev pub finished : InstanceState → Finish → InstanceState
finished i f = record i { progress = Ended f false }

-- the instance that was given what the last cycle found. This project's profile
abbrev pub with_reached : InstanceState → Bool → InstanceState
with_reached i reached = record i { reached = reached }

-- no output is true
abbrev pub nothing : Outputs
nothing = record {
  busy = false;
  active = false;
  done = false;
  aborted = false;
  error = false;
  error_id = 0;
  reached = false;
}

-- a result; a Stop that is done is active while it holds its axis or group. PLCopen Motion Control
-- Part 1, MC_Stop
abbrev pub result_of : Bool → Finish → Outputs
result_of holds finish.Done = record nothing { active = holds; done = true }
result_of holds finish.Aborted = record nothing { aborted = true }
result_of holds (finish.Error n) = record nothing { error = true; error_id = n }

-- the outputs of a block that is no Power
abbrev pub outputs_by : Bool → Bool → Bool → Progress → Outputs
outputs_by stop execute reached Idle = nothing
outputs_by stop execute reached Waiting = record nothing { busy = true }
outputs_by stop execute reached Active =
    record nothing { busy = true; active = true; reached = not stop && reached }
outputs_by stop execute reached (Ended f shown) = result_of (stop && execute && reached) f

-- the outputs of an instance; a Power shows its Enable and whether its axis is driven. PLCopen
-- Motion Control Part 1, MC_Power
abbrev pub outputs_of : InstanceState → Outputs
outputs_of i =
    if is_power i.kind then record nothing { busy = i.execute; reached = i.execute && i.reached }
    else outputs_by (is_stop i.kind) i.execute i.reached i.progress

-- a result that was shown
abbrev pub shown_progress : Progress → Progress
shown_progress Idle = Idle
shown_progress Waiting = Waiting
shown_progress Active = Active
shown_progress (Ended f s) = Ended f true

-- the instance after a reply
abbrev pub shown : InstanceState → InstanceState
shown i = record i { progress = shown_progress i.progress }
