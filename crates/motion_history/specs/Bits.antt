-- How many bits the numbers of an entry have. This project's profile.
use Rattle.std.specs.Prelude.{◌≡◌, ◌-◌, ◌^◌, ◌<◌, ◌≤◌, pos, neg_ℤ, ◌≤ℤ◌, length}
use Rattle.std.specs.List.{AllByRecursion}
use Rattle.std.proofs.Common.{FitsSigned, w64}
use Rattle.plc_types.specs.declared.axis.AxisRow.{AxisRow}
use Rattle.plc_types.specs.declared.inputs.Inputs.{Inputs}
use Rattle.plc_types.specs.declared.outputs.Outputs.{Outputs}
use Rattle.plc_types.specs.declared.group.GroupRow.{GroupRow}
use Rattle.motion_history.specs.Entries.{Entry, call, cycle, end_of}
use Rattle.motion_history.specs.declared.sizes.TheConstants.{MOST_MEMBERS}

-- a row of an axis has words of 16 bits, positions of 32, a mode of 8, an ErrorID of 16, and a
-- setpoint and an offset of 64
pub record HasRowBits (r : AxisRow) : Type 0 where
  pub statusword : r.input.statusword < 65536
  pub actual_least : neg_ℤ (pos (2 ^ 31)) ≤ℤ r.input.actual
  pub actual_most : r.input.actual ≤ℤ pos (2 ^ 31 - 1)
  pub mode_least : neg_ℤ (pos 128) ≤ℤ r.input.mode_display
  pub mode_most : r.input.mode_display ≤ℤ pos 127
  pub error : r.error ≤ 65535
  pub setpoint : FitsSigned w64 r.setpoint
  pub offset : FitsSigned w64 r.offset
  pub controlword : r.output.controlword < 65536
  pub target_least : neg_ℤ (pos (2 ^ 31)) ≤ℤ r.output.target
  pub target_most : r.output.target ≤ℤ pos (2 ^ 31 - 1)

-- a row of a group has an ErrorID of 16 bits
pub record HasGroupRowBits (r : GroupRow) : Type 0 where
  pub error : r.error ≤ 65535

-- a call has the whole array of its positions, and the number of its cam table and its ErrorID have
-- 16 bits
pub record HasCallBits (i : Inputs) (o : Outputs) : Type 0 where
  pub positions : length i.positions ≡ MOST_MEMBERS
  pub table : i.table < 2 ^ 16
  pub error : o.error_id < 2 ^ 16

-- the numbers of an entry have their bits
abbrev pub HasBits : Entry → Type 0
HasBits (call k inputs reply) = HasCallBits inputs reply
HasBits (cycle n rows groups) =
    AllByRecursion HasRowBits rows × AllByRecursion HasGroupRowBits groups
HasBits (end_of task) = Unit {0}
