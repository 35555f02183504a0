-- Where a move of an instance ends that is Done (PLCopen Motion Control Part 1, Done).
use Rattle.std.specs.Prelude.{◌≡◌, ℕ, true, Some, List, ◌∷◌, ◌++◌, slice_get}
use Rattle.axis_core.specs.Arrivals.{IsMoveDone}
use Rattle.axis_core.specs.blocks.Moves.{blended_with, is_move, target_of}
use Rattle.command_pool.specs.declared.ending.Finish.TheVariants as finish
use Rattle.command_pool.specs.declared.wanted.Wanted.{Wanted}
use Rattle.motion_history.specs.Entries.{Entry}
use Rattle.motion_history.specs.Setup.{Setup}
use Rattle.motion_history.specs.declared.config.BlockDef.{BlockDef}
use Rattle.motion_kernel.specs.Histories.{after, machine_after}
use Rattle.motion_kernel.specs.Machine.{Machine, axis_at, axis_core_at}
use Rattle.motion_laws.specs.results.Outcomes.{finish_in}

-- the active command of an axis is one of the instance and of its block's kind, and the axis comes
-- to its target by an entry, at rest, or, where it is blended, by a step that crosses it
pub record IsDoneThere (s : Setup) (m : Machine) (e : Entry) (k : ℕ) (b : BlockDef) : Type 0 where
  pub command : Wanted
  pub active : (axis_at m b.object).active ≡ Some command
  pub own : command.owner ≡ Some k
  pub of_kind : command.kind ≡ b.kind
  pub there :
      let c = axis_core_at m b.object in
      IsMoveDone (blended_with c.axis command (slice_get c.waiting 0)) (target_of command)
      c.axis.setpoint (axis_at (after s m e) b.object)

-- so it is in each entry by which the move of an instance is Done
abbrev pub MovesEndThere : Setup → List Entry → Type 0
MovesEndThere s es = (made more : List Entry) (e : Entry) (k : ℕ) (b : BlockDef) →
    es ≡ made ++ e ∷ more → slice_get s.blocks k ≡ Some b → is_move b.kind ≡ true →
    finish_in s (machine_after s made) e k b ≡ Some finish.Done →
    IsDoneThere s (machine_after s made) e k b
