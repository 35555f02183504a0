-- What a call that is refused leaves of the machine (PLCopen Motion Control Part 1, general rules).
use Rattle.std.specs.Prelude.{◌≡◌, ℕ, ◌≤◌, true, false}
use Rattle.command_pool.specs.declared.ending.Finish.TheVariants as finish
use Rattle.fb_outputs.specs.InstanceState.{InstanceState}
use Rattle.fb_outputs.specs.Steps.{edge_of}
use Rattle.plc_types.specs.declared.inputs.Inputs.{Inputs}
use Rattle.fb_outputs.specs.declared.instance.Edge.TheVariants.{Rising}
use Rattle.fb_outputs.specs.declared.instance.Progress.TheVariants.{Ended}
use Rattle.plc_types.specs.declared.outputs.Outputs.{Outputs}
use Rattle.motion_kernel.specs.calls.Calls.{with_instance, without_owner}
use Rattle.motion_kernel.specs.Machine.{Machine, instance_at}

-- a call is refused: it is a rising edge of its block's Execute, and its reply shows an error
pub record IsRefused (m : Machine) (k : ℕ) (i : Inputs) (reply : Outputs) : Type 0 where
  pub edge : edge_of (instance_at m.instances k).execute i.execute ≡ Rising
  pub error : reply.error ≡ true

-- the number of a refusal. This project's profile
pub record IsRefusalNumber (number : ℕ) : Type 0 where
  pub least : 1 ≤ number
  pub most : number ≤ 19

-- an instance whose call was refused: it has shown the error
abbrev pub refused_instance : ℕ → InstanceState → InstanceState
refused_instance number i =
    record i { execute = true; reached = false; progress = Ended (finish.Error number) true }

-- the machine after a refused call: as it was, but for the instance, which has its earlier command
-- no longer
abbrev pub machine_refused : ℕ → ℕ → Machine → Machine
machine_refused k number m =
    with_instance (without_owner k m) k (refused_instance number (instance_at m.instances k))
