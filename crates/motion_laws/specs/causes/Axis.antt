-- What brings an axis its error, by the error's number (PLCopen Motion Control Part 1, the state
-- diagram, ErrorStop; the numbers are this project's profile).
use Rattle.std.specs.Prelude.{◌≡◌, ◌⊎◌, ℕ, ℤ, ◌+ℤ◌, ◌-ℤ◌, ◌≤ℤ◌, ◌<ℤ◌, pos, true, false, Option, Some, None, slice_get}
use Rattle.axis_core.specs.Cores.{Core}
use Rattle.axis_core.specs.Drives.{actual_of}
use Rattle.axis_core.specs.Fates.{cycle_fate}
use Rattle.axis_core.specs.Profiles.{profile_of}
use Rattle.axis_core.specs.Ranges.{IsBetween}
use Rattle.axis_core.specs.Steps.{old_step_of, step_toward}
use Rattle.axis_core.specs.blocks.Gear.{gear_step_of}
use Rattle.axis_core.specs.blocks.Moves.{position_of}
use Rattle.axis_core.specs.blocks.Power.{is_powered}
use Rattle.axis_core.specs.blocks.Velocity.{step_to_velocity}
use Rattle.axis_core.specs.declared.axis.Axis.{Axis}
use Rattle.axis_core.specs.declared.look.AxisLook.{AxisLook}
use Rattle.axis_core.specs.declared.profile.Manner.{Manner}
use Rattle.axis_core.specs.declared.profile.Manner.TheVariants.{Runs, Gears, Cams}
use Rattle.cia402_machine.specs.Statusword.{state_of_word}
use Rattle.plc_types.specs.declared.drive.DriveIn.{DriveIn}
use Rattle.plc_types.specs.declared.drive.DriveState.TheVariants as drive
use Rattle.command_pool.specs.declared.ending.Finish.TheVariants as finish
use Rattle.command_pool.specs.declared.wanted.Wanted.{Wanted}
use Rattle.follow_plan.specs.Gear.{gear_toward_of}
use Rattle.kin_core.specs.Admissible.{IsSafe}
use Rattle.motion_laws.specs.Orders.{is_relative}

-- a drive is in Fault, or reacts to one. IEC 61800-7-201, object 6041h
abbrev pub ReportsFault : DriveIn → Type 0
ReportsFault d =
    (state_of_word d.statusword ≡ Some drive.Fault)
    ⊎ (state_of_word d.statusword ≡ Some drive.FaultReactionActive)

-- a drive takes setpoints: it is in Operation enabled, in cyclic synchronous position mode. IEC
-- 61800-7-201, objects 6041h and 6061h
pub record TakesSetpoints (d : DriveIn) : Type 0 where
  pub enabled : state_of_word d.statusword ≡ Some drive.OperationEnabled
  pub mode : d.mode_display ≡ pos 8

-- an axis that is driven with power on loses its drive, which takes no setpoints any more, and
-- reports no fault. IEC 61800-7-201, object 6041h
pub record LosesDrive (a : Axis) (d : DriveIn) : Type 0 where
  pub powered : is_powered a ≡ true
  pub driven : a.driven ≡ true
  pub lost : TakesSetpoints d → ⊥
  pub sound : ReportsFault d → ⊥

-- the drive of an axis that is not driven takes setpoints with power on, but stands outside the
-- axis's limits. This project's profile
pub record ComesOutside (a : Axis) (d : DriveIn) : Type 0 where
  pub powered : is_powered a ≡ true
  pub idle : a.driven ≡ false
  pub takes : TakesSetpoints d
  pub outside : IsBetween a.limits.lo (actual_of a d) a.limits.hi → ⊥

-- which error a drive's answer brings an axis, and by what
pub data AnswerBrings (a : Axis) (d : DriveIn) (error : ℕ) : Type 0 where
  fault : error ≡ 101 → ReportsFault d → AnswerBrings a d error
  lost : error ≡ 102 → LosesDrive a d → AnswerBrings a d error
  outside : error ≡ 105 → ComesOutside a d → AnswerBrings a d error

-- no setpoint that lies this step away is safe: it isn't admissible, or the axis can't be stopped
-- within its limits after it
abbrev pub IsUnsafe : Axis → ℤ → Type 0
IsUnsafe a step = IsSafe a.limits a.previous a.setpoint (a.setpoint +ℤ step) → ⊥

-- a step brakes: it lies between 0 and the step before it, and is less than that
abbrev pub Brakes : ℤ → ℤ → Type 0
Brakes old step = ((pos 0 ≤ℤ step) × (step <ℤ old)) ⊎ ((old <ℤ step) × (step ≤ℤ pos 0))

-- the step that a command without a target wants, by how it moves: toward its Velocity, the step of
-- its gear, or the position of its cam. MC_MoveVelocity, MC_GearIn, MC_CamIn
abbrev pub step_wanted : Manner → Axis → Wanted → AxisLook → Option ℤ
step_wanted Runs a w look = Some (step_to_velocity a w.rates.v w)
step_wanted Gears a w look =
    Some (step_to_velocity a
    (gear_toward_of (gear_step_of w.follow look.master) a.limits.vmax) w)
step_wanted Cams a w look = Some (step_toward a look.cam w)
step_wanted m a w look = None

-- the active command has no target, and the step that it wants is unsafe and doesn't brake
pub record RunsPastLimit (a : Axis) (look : AxisLook) : Type 0 where
  pub command : Wanted
  pub active : a.active ≡ Some command
  pub step : ℤ
  pub wanted : step_wanted (profile_of command.kind).manner a command look ≡ Some step
  pub unsafe : IsUnsafe a step
  pub fast : Brakes (old_step_of a) step → ⊥

-- the active command is a CamIn that was InSync, and the step to the cam's position is unsafe.
-- MC_CamIn
pub record LosesCam (a : Axis) (look : AxisLook) : Type 0 where
  pub command : Wanted
  pub active : a.active ≡ Some command
  pub of_manner : (profile_of command.kind).manner ≡ Cams
  pub synchronized : a.reached ≡ true
  pub far : IsUnsafe a (look.cam -ℤ a.setpoint)

-- the active command ends, and the first that waits is relative and lays down its target where the
-- axis then stands, which lies outside the limits. MC_MoveRelative, MC_MoveAdditive, BufferMode
pub record EndsOutside (look : AxisLook) (c : Core) (place : ℤ) : Type 0 where
  pub ends :
      ((cycle_fate look c).ends ≡ Some finish.Done)
      ⊎ ((cycle_fate look c).ends ≡ Some finish.Aborted)
  pub next : Wanted
  pub waits : slice_get c.waiting 0 ≡ Some next
  pub of_kind : is_relative next.kind ≡ true
  pub unset : next.target ≡ None
  pub outside : IsBetween c.axis.limits.lo (place +ℤ position_of next) c.axis.limits.hi → ⊥

-- which error a cycle, after which the axis stands at this place, brings an axis, and by what
pub data CycleBrings (look : AxisLook) (c : Core) (place : ℤ) (error : ℕ) : Type 0 where
  answer : AnswerBrings c.axis look.input error → CycleBrings look c place error
  limit : error ≡ 103 → RunsPastLimit c.axis look → CycleBrings look c place error
  cam : error ≡ 104 → LosesCam c.axis look → CycleBrings look c place error
  relative : error ≡ 106 → EndsOutside look c place → CycleBrings look c place error
