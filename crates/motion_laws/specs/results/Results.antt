-- Which end of a command its instance is notified, and when it shows it (PLCopen Motion Control
-- Part 1, general rules).
use Rattle.std.specs.Prelude.{◌≡◌, ◌⊎◌, ℕ, Bool, true, false, not, ◌&&◌, nat_eq, Option, Some, List, ◌∷◌, ◌++◌, slice_get}
use Rattle.std.specs.List.{AllByRecursion}
use Rattle.command_pool.specs.declared.ending.Finish.{Finish}
use Rattle.command_pool.specs.declared.ending.Finish.TheVariants as finish
use Rattle.fb_outputs.specs.Steps.{is_power}
use Rattle.plc_types.specs.declared.inputs.Inputs.{Inputs}
use Rattle.plc_types.specs.declared.outputs.Outputs.{Outputs}
use Rattle.motion_history.specs.Entries.{Entry, call, cycle, cycle_count, end_of}
use Rattle.motion_history.specs.Setup.{Setup}
use Rattle.motion_history.specs.declared.config.BlockDef.{BlockDef}
use Rattle.motion_laws.specs.arrivals.AxisFates.{axis_fate}
use Rattle.motion_laws.specs.arrivals.GroupFates.{group_fate}
use Rattle.motion_kernel.specs.Histories.{after, machine_after, replay}
use Rattle.motion_kernel.specs.Machine.{Machine, instance_at}
use Rattle.motion_kernel.specs.owners.Objects.{IsThere, Object, a_group, an_axis, object_of}
use Rattle.motion_kernel.specs.owners.Commands.{active_at, commands_shown}
use Rattle.motion_kernel.specs.owners.Blocks.{command_state_at}
use Rattle.motion_laws.specs.results.Outcomes.{IsOutcome, end_of_command, finish_in}

-- how the active command of an axis or a group ends in an entry, if it does
abbrev pub end_in : Setup → Machine → Entry → Object → Option Finish
end_in s m e (an_axis n) = (axis_fate s m e n).ends
end_in s m e (a_group j) = (group_fate s m e j).ends

-- whether an entry is a call of an instance
abbrev pub is_call_of : ℕ → Entry → Bool
is_call_of k (call j i reply) = nat_eq j k
is_call_of k (cycle c rows grows) = false
is_call_of k (end_of task) = false

-- whether a call is a rising edge of its instance's Execute, which takes its earlier command away
abbrev pub is_rising : Machine → ℕ → Inputs → Bool
is_rising m k i = not (instance_at m.instances k).execute && i.execute

-- whether an entry is such a call of an instance
abbrev pub takes_away : Machine → ℕ → Entry → Bool
takes_away m k (call j i reply) = nat_eq j k && is_rising m j i
takes_away m k (cycle c rows grows) = false
takes_away m k (end_of task) = false

-- a reply reports an end: Done, CommandAborted, or Error with the number of the error
abbrev pub Tells : Finish → Outputs → Type 0
Tells finish.Done o = o.done ≡ true
Tells finish.Aborted o = o.aborted ≡ true
Tells (finish.Error n) o = (o.error ≡ true) × (o.error_id ≡ n)

-- none of some entries is a call of an instance
abbrev pub AreNoCalls : ℕ → List Entry → Type 0
AreNoCalls k es = AllByRecursion (λ e. is_call_of k e ≡ false) es

-- the next call of an instance in some entries gives the end, unless it is a rising edge
abbrev pub TellsNext : Setup → ℕ → Finish → Machine → List Entry → Type 0
TellsNext s k f m es = (before later : List Entry) (i : Inputs) (reply : Outputs) →
    es ≡ before ++ call k i reply ∷ later → AreNoCalls k before →
    is_rising (replay s m before) k i ≡ false → Tells f reply

-- what an entry gives an instance, with the entries after it
pub record KeepsResults (s : Setup) (m : Machine) (e : Entry) (more : List Entry) (k : ℕ)
    : Type 0 where
  -- each entry makes of the instance what its own call or the changes of commands say
  pub outcome : (b : BlockDef) → slice_get s.blocks k ≡ Some b → is_power b.kind ≡ false →
      IsOutcome s m e k b
  -- where its command is the active one, it ends as the fate of that says
  pub end : (o : Object) → IsThere m o → active_at m k o ≡ 1 → is_call_of k e ≡ false →
      end_of_command s m e k o ≡ end_in s m e o
  -- where it is Done it is the active one, or a reset
  pub done : (o : Object) → IsThere m o → end_of_command s m e k o ≡ Some finish.Done →
      (active_at m k o ≡ 1) ⊎ ((command_state_at m o).reset ≡ Some k)
  -- and then the entry is a cycle: no call makes a command Done but its own
  pub by_cycle : (o : Object) → end_of_command s m e k o ≡ Some finish.Done → cycle_count e ≡ 1
  -- each end, be it of the active command, of one that waits or of a reset, is reported at the
  -- instance's next call, unless that is a rising edge
  pub told : (b : BlockDef) (f : Finish) → slice_get s.blocks k ≡ Some b →
      is_power b.kind ≡ false → is_call_of k e ≡ false →
      end_of_command s m e k (object_of b) ≡ Some f → TellsNext s k f (after s m e) more
  -- and how its own call is answered, refused or Done at once, in that call's reply
  pub answered : (b : BlockDef) (i : Inputs) (reply : Outputs) (f : Finish) →
      e ≡ call k i reply → slice_get s.blocks k ≡ Some b → is_power b.kind ≡ false →
      finish_in s m e k b ≡ Some f → Tells f reply
  -- and one without a command is given nothing
  pub untold : commands_shown (instance_at m.instances k).progress ≡ 0 → is_call_of k e ≡ false →
      (instance_at (after s m e).instances k).progress ≡ (instance_at m.instances k).progress

-- so it is of each entry of a history and each instance
abbrev pub ResultsAreTold : Setup → List Entry → Type 0
ResultsAreTold s es = (made more : List Entry) (e : Entry) (k : ℕ) → es ≡ made ++ e ∷ more →
    KeepsResults s (machine_after s made) e more k
