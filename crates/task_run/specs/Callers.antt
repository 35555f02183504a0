-- What contracts see of who makes the calls of a task. This project's profile.
use Rattle.std.specs.Prelude.{◌≡◌, ◌<◌, ◌≤◌, ℕ, Bool, true, false, List, [], ◌∷◌, ◌++◌}
use Rattle.plc_types.specs.declared.inputs.Inputs.{Inputs}
use Rattle.plc_types.specs.declared.outputs.Outputs.{Outputs}
use Rattle.motion_history.specs.Setup.{Setup}
use Rattle.task_run.specs.declared.caller.LoggedCall.{LoggedCall}

-- a caller: the configuration, the number of the task, the calls that were made, whether a rest is
-- asked for, and whether a call was refused
pub record CallerState : Type 0 where
  pub config : Setup
  pub task : ℕ
  pub calls : List LoggedCall
  pub rests : Bool
  pub refused : Bool

-- how many cycles came before the last of these calls, or this many where there is none
abbrev pub cycles_from : ℕ → List LoggedCall → ℕ
cycles_from cycles [] = cycles
cycles_from cycles (c ∷ calls) = cycles_from c.cycles calls

-- a call with this many cycles before it may follow one with those: it has no fewer, and where a
-- rest lies between the two it has more
pub record MayFollow (rests : Bool) (earlier cycles : ℕ) : Type 0 where
  pub behind : earlier ≤ cycles
  pub rested : rests ≡ true → earlier < cycles

-- a caller has made a call, which got this reply; a rest is then over
pub record MakesCall (before : CallerState) (k : ℕ) (i : Inputs) (after : CallerState)
    (reply : Outputs) : Type 0 where
  pub cycles : ℕ
  pub follows : MayFollow before.rests (cycles_from 0 before.calls) cycles
  pub caller : after ≡ record before {
    calls = before.calls ++ record {
      instance = k;
      inputs = i;
      reply = reply;
      cycles = cycles;
    } ∷ [];
    rests = false;
  }

-- a caller that was not used yet
pub record IsUnused (caller : CallerState) : Type 0 where
  pub calls : caller.calls ≡ []
  pub rests : caller.rests ≡ false
  pub refused : caller.refused ≡ false

-- it is of the same task of the same configuration
pub record IsSameTask (before after : CallerState) : Type 0 where
  pub config : after.config ≡ before.config
  pub task : after.task ≡ before.task
