-- How commands end by their kinds (PLCopen Motion Control Part 1, Done and CommandAborted).
use Rattle.std.specs.Prelude.{◌≡◌, ◌≢◌, ℕ, Bool, true, false, not, Some, List, [], ◌∷◌, ◌++◌, slice_get}
use Rattle.axis_core.specs.Profiles.{profile_of}
use Rattle.axis_core.specs.declared.profile.Closes.{Closes}
use Rattle.axis_core.specs.declared.profile.Closes.TheVariants.{ForNext}
use Rattle.command_core.specs.CommandState.{CommandState}
use Rattle.command_pool.specs.declared.ending.Finish.TheVariants as finish
use Rattle.plc_types.specs.declared.kind.BlockKind.{BlockKind}
use Rattle.plc_types.specs.declared.kind.BlockKind.TheVariants as kind
use Rattle.motion_history.specs.Entries.{Entry, cycle_count}
use Rattle.motion_history.specs.Setup.{Setup}
use Rattle.motion_history.specs.declared.config.BlockDef.{BlockDef}
use Rattle.motion_kernel.specs.Histories.{machine_after}
use Rattle.motion_kernel.specs.Machine.{Machine}
use Rattle.motion_kernel.specs.owners.Commands.{active_at}
use Rattle.motion_kernel.specs.owners.Objects.{object_of}
use Rattle.motion_kernel.specs.owners.Blocks.{command_state_at}
use Rattle.motion_laws.specs.results.Outcomes.{finish_in}

-- whether a command that closes so goes on until one that waits takes over. MC_MoveVelocity,
-- MC_GearIn, MC_CamIn, BufferMode
abbrev pub closes_for_next : Closes → Bool
closes_for_next ForNext = true
closes_for_next closes = false

-- whether a command gives way to one that waits
abbrev pub may_give_way : BlockKind → Bool
may_give_way k = closes_for_next (profile_of k).closes

-- whether it may be Done: not a Power, nor one that gives way; and a MoveCircularAbsolute is always
-- refused. The last is this project's profile
abbrev pub may_be_done : BlockKind → Bool
may_be_done kind.Power = false
may_be_done kind.MoveCircularAbsolute = false
may_be_done k = not (may_give_way k)

-- a command gives way: it is of such a kind, and another one waits
pub record GivesWay (kind : BlockKind) (c : CommandState) : Type 0 where
  pub may : may_give_way kind ≡ true
  pub waits : c.waiting ≢ []

-- how an entry ends the command of an instance
pub record EndsByKind (s : Setup) (m : Machine) (e : Entry) (k : ℕ) (b : BlockDef)
    : Type 0 where
  -- one that is Done may be
  pub done : finish_in s m e k b ≡ Some finish.Done → may_be_done b.kind ≡ true
  -- an active one that a cycle aborts gives way
  pub aborted : cycle_count e ≡ 1 → active_at m k (object_of b) ≡ 1 →
      finish_in s m e k b ≡ Some finish.Aborted → GivesWay b.kind (command_state_at m (object_of b))

-- so does each entry of a history
abbrev pub EndByKinds : Setup → List Entry → Type 0
EndByKinds s es = (made more : List Entry) (e : Entry) (k : ℕ) (b : BlockDef) →
    es ≡ made ++ e ∷ more → slice_get s.blocks k ≡ Some b →
    EndsByKind s (machine_after s made) e k b
