-- What brings a group its error (PLCopen Motion Control Part 4, the state diagram, GroupErrorStop;
-- the numbers are this project's profile).
use Rattle.std.specs.Prelude.{◌≡◌, ℕ, ◌<◌, false, Some, List, length, slice_get}
use Rattle.axis_state.specs.States.{is_error_stop}
use Rattle.plc_types.specs.declared.drive.DriveIn.{DriveIn}
use Rattle.plc_types.specs.declared.kind.BlockKind.TheVariants as kind
use Rattle.plc_types.specs.declared.inputs.Inputs.{Inputs}
use Rattle.motion_history.specs.Setup.{Setup}
use Rattle.motion_history.specs.declared.config.BlockDef.{BlockDef}
use Rattle.motion_kernel.specs.Machine.{Machine, axis_at}
use Rattle.motion_kernel.specs.declared.memberships.Membership.{Membership}
use Rattle.motion_kernel.specs.looks.DriveAnswers.{answer_at}
use Rattle.motion_kernel.specs.members.Members.{member_at, members_at, membership_of}
use Rattle.motion_laws.specs.causes.Axis.{AnswerBrings}

-- a Power of one of its axes is called with Enable false. MC_Power
pub record SwitchesOff (s : Setup) (k : ℕ) (i : Inputs) (j : ℕ) : Type 0 where
  pub block : BlockDef
  pub at : slice_get s.blocks k ≡ Some block
  pub of_kind : block.kind ≡ kind.Power
  pub off : i.execute ≡ false
  pub membership : Membership
  pub member : membership_of s block.object ≡ Some membership
  pub own : membership.group ≡ j

-- one of its axes, which is not in ErrorStop, gets the error from its drive's answer, and none
-- before it in the group's order gets one
pub record FailsByAxis (s : Setup) (m : Machine) (ins : List DriveIn) (j error : ℕ)
    : Type 0 where
  pub place : ℕ
  pub there : place < length (members_at s j)
  pub running : is_error_stop (axis_at m (member_at (members_at s j) place)).state ≡ false
  pub brings :
      let n = member_at (members_at s j) place in
      AnswerBrings (axis_at m n) (answer_at ins n) error
  pub first : (p : ℕ) → p < place →
      let n = member_at (members_at s j) p in
      is_error_stop (axis_at m n).state ≡ false →
      (other : ℕ) → AnswerBrings (axis_at m n) (answer_at ins n) other → ⊥
