-- Moves that are blended into the next one, and that they end in time (PLCopen Motion Control Part
-- 1, BufferMode; the bounds are this project's profile).
use Rattle.std.specs.Prelude.{◌≡◌, ℕ, ◌+◌, ◌≤◌, true, Option, Some, None, List, slice_get}
use Rattle.axis_core.specs.FirstMove.{FirstEndsWithin, crossing_bound_of, first_bound_of}
use Rattle.blend_plan.specs.BlendRun.{HasBlend}
use Rattle.command_pool.specs.declared.ending.Finish.{Finish}
use Rattle.command_pool.specs.declared.wanted.Wanted.{Wanted}
use Rattle.axis_core.specs.blocks.Moves.{blended_with, is_move, second_move_of, target_of}
use Rattle.axis_core.specs.declared.axis.Axis.{Axis}
use Rattle.axis_core.specs.declared.blocks.moves.SecondMove.{SecondMove}

-- a move is active, and a blend into the first command that waits applies to it
pub record IsBlended (first : Wanted) (second : SecondMove) (a : Axis) (waiting : List Wanted)
    : Type 0 where
  pub active : a.active ≡ Some first
  pub move : is_move first.kind ≡ true
  pub blends : blended_with a first (slice_get waiting 0) ≡ Some second

-- the blend has a step that may follow
abbrev pub HasStep : Wanted → SecondMove → Axis → Type 0
HasStep first second a =
    HasBlend (target_of first) second.target a.previous a.setpoint first.rates second.rates
    second.velocity

-- within how many cycles a blend that has a step crosses: as many as the first target is units
-- away, and one
abbrev pub cycles_to_cross : Wanted → Axis → ℕ
cycles_to_cross first a = crossing_bound_of (target_of first) a.setpoint

-- within how many cycles the first move ends, whether its blend has a step or not: those in which
-- it brakes until there is one, and those to cross or to come back from after the target
abbrev pub cycles_of_blend : Wanted → Axis → ℕ
cycles_of_blend first a = first_bound_of (target_of first) a.previous a.setpoint first.rates

-- a move is active, after it a second one waits into which it is blended where a blend applies,
-- and by the steps of both it ends within n cycles
pub record IsBlending (n : ℕ) (a : Axis) (waiting : List Wanted) : Type 0 where
  pub first : Wanted
  pub second : SecondMove
  pub active : a.active ≡ Some first
  pub move : is_move first.kind ≡ true
  pub next : second_move_of first (slice_get waiting 0) ≡ Some second
  pub run : FirstEndsWithin n a.limits (target_of first) second.target a.previous a.setpoint
      first.rates second.rates second.velocity

-- it goes on, with fewer cycles to go
pub record BlendingGoesOn (n c : ℕ) (a : Axis) (waiting : List Wanted) : Type 0 where
  pub left : ℕ
  pub sum : c + left ≡ n
  pub under_way : IsBlending left a waiting

-- after an event of c cycles it has ended, Done or aborted or by an error, or goes on
abbrev pub BlendingCarried : ℕ → ℕ → Option Finish → Axis → List Wanted → Type 0
BlendingCarried n c (Some f) a waiting = c ≤ n
BlendingCarried n c None a waiting = BlendingGoesOn n c a waiting
