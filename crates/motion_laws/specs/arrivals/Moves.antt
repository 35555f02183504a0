-- When the commands of axes come to their end (PLCopen Motion Control Part 1, Done).
use Rattle.std.specs.Prelude.{◌≡◌, ℕ, ◌+◌, ◌<◌, ◌≤◌, true, Option, Some, None, option_map, List, [], ◌∷◌, ◌++◌, length, slice_get}
use Rattle.axis_core.specs.Arrivals.{Course, IsMoveDone, IsTurn, Turn, bound_of, course_of, end_turn_of, turn_of}
use Rattle.axis_core.specs.Blended.{HasStep, IsBlended, cycles_of_blend, cycles_to_cross}
use Rattle.buffer_modes.specs.Fates.{Fate, IsFate}
use Rattle.axis_core.specs.blocks.Moves.{blended_with, is_move, target_of}
use Rattle.axis_core.specs.declared.blocks.moves.SecondMove.{SecondMove}
use Rattle.command_pool.specs.declared.ending.Finish.TheVariants as finish
use Rattle.command_pool.specs.declared.wanted.Wanted.{Wanted}
use Rattle.motion_history.specs.Entries.{Entry, cycle_count, cycles_of}
use Rattle.motion_history.specs.Setup.{Setup}
use Rattle.motion_laws.specs.arrivals.AxisFates.{axis_fate}
use Rattle.motion_kernel.specs.Histories.{after, machine_after}
use Rattle.motion_kernel.specs.Machine.{Machine, axis_at, axis_core_at}

-- how the active command of an axis is turned: in which cycle, how, and the machine then. This
-- project's profile
pub record Turned : Type 0 where
  pub cycles : ℕ
  pub turn : Turn
  pub machine : Machine

-- it is turned by an entry of this many cycles, or later
abbrev pub turned_by : Option Turn → ℕ → Machine → Option Turned → Option Turned
turned_by (Some t) cycles m later = Some (record { cycles = cycles; turn = t; machine = m })
turned_by None cycles m later =
    option_map (λ (t : Turned). record t { cycles = cycles + t.cycles }) later

-- the first turn of the active command of an axis in some entries, if it has one there, where its
-- fate in each says of one
abbrev pub turned_by_fates : (Fate → Option Turn) → Setup → ℕ → Machine → List Entry →
    Option Turned
turned_by_fates turn s n m [] = None
turned_by_fates turn s n m (e ∷ es) =
    turned_by (turn (axis_fate s m e n)) (cycle_count e) (after s m e)
    (turned_by_fates turn s n (after s m e) es)

abbrev pub turned_in : Setup → ℕ → Machine → List Entry → Option Turned
turned_in s n m es = turned_by_fates turn_of s n m es

-- its end, by which it is Done, aborted or faulted: that it is blended is none
abbrev pub move_end_in : Setup → ℕ → Machine → List Entry → Option Turned
move_end_in s n m es = turned_by_fates end_turn_of s n m es

-- there is a turn, within this many cycles, of which this holds
abbrev pub IsWithin : ℕ → (Turn → Machine → Type 0) → Option Turned → Type 0
IsWithin most holds None = ⊥
IsWithin most holds (Some t) = (t.cycles ≤ most) × holds t.turn t.machine

-- there is a turn, within this many cycles; where the command is then Done, the axis is at the end
-- of its course: at rest, and at the target if it has one
abbrev pub IsTurnedWithin : ℕ → Course → ℕ → Option Turned → Type 0
IsTurnedWithin most course n turned =
    IsWithin most (λ (t : Turn) (m : Machine). IsTurn t course (axis_at m n)) turned

-- there is an end, within this many cycles
abbrev pub IsMoveEndedWithin : ℕ → Option Turned → Type 0
IsMoveEndedWithin most ended = IsWithin most (λ (t : Turn) (m : Machine). Unit {0}) ended

-- a move, a Halt or a Stop that begins with an entry on an axis is turned within its bound, where
-- the entries after it have this many cycles
abbrev pub TurnsInTime : Setup → Machine → Entry → List Entry → ℕ → Type 0
TurnsInTime s m e more n = (w : Wanted) (course : Course) →
    (axis_fate s m e n).begins ≡ Some w → course_of w ≡ Some course →
    bound_of course (axis_at (after s m e) n) ≤ cycles_of more →
    IsTurnedWithin (bound_of course (axis_at (after s m e) n)) course n
    (turned_in s n (after s m e) more)

-- so it is of each entry of a history and each axis
abbrev pub MovesTurnInTime : Setup → List Entry → Type 0
MovesTurnInTime s es = (made more : List Entry) (e : Entry) (n : ℕ) → es ≡ made ++ e ∷ more →
    n < length s.axes → TurnsInTime s (machine_after s made) e more n

-- what an entry makes of the active command of an axis, with the entries after it
pub record KeepsMotion (s : Setup) (m : Machine) (e : Entry) (more : List Entry) (n : ℕ)
    : Type 0 where
  -- how it ends and which one begins is what the axis shows
  pub fate : IsFate (axis_fate s m e n) (axis_at m n).active (axis_at (after s m e) n).active
  -- what begins is turned in time
  pub in_time : TurnsInTime s m e more n
  -- a move ends Done at its target alone, or, blended, by a step that crosses it
  pub done : (w : Wanted) → (axis_at m n).active ≡ Some w → is_move w.kind ≡ true →
      (axis_fate s m e n).ends ≡ Some finish.Done →
      let c = axis_core_at m n in
      IsMoveDone (blended_with c.axis w (slice_get c.waiting 0)) (target_of w) c.axis.setpoint
      (axis_at (after s m e) n)
  -- a blended move ends, where a step may follow in its blend, within as many cycles as its target
  -- is units away, and one, where there are this many: it crosses or stands there, or is aborted or
  -- faulted
  pub crosses : (w : Wanted) (second : SecondMove) →
      let c = axis_core_at (after s m e) n in
      IsBlended w second c.axis c.waiting → HasStep w second c.axis →
      cycles_to_cross w c.axis ≤ cycles_of more →
      IsMoveEndedWithin (cycles_to_cross w c.axis) (move_end_in s n (after s m e) more)
  -- and none hangs: each ends within the bound of its blend
  pub ends : (w : Wanted) (second : SecondMove) →
      let c = axis_core_at (after s m e) n in
      IsBlended w second c.axis c.waiting → cycles_of_blend w c.axis ≤ cycles_of more →
      IsMoveEndedWithin (cycles_of_blend w c.axis) (move_end_in s n (after s m e) more)

-- so it is too of each entry of a history and each axis
abbrev pub MovesArrive : Setup → List Entry → Type 0
MovesArrive s es = (made more : List Entry) (e : Entry) (n : ℕ) → es ≡ made ++ e ∷ more →
    n < length s.axes → KeepsMotion s (machine_after s made) e more n
