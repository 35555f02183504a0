-- Where the errors come from that rows show, and by which commands end (PLCopen Motion Control Part
-- 1 and Part 4, the state diagrams).
use Rattle.std.specs.Prelude.{◌≡◌, ◌≢◌, ℕ, true, false, Some, List, [], ◌∷◌, ◌++◌, slice_get}
use Rattle.plc_types.specs.declared.axis.AxisRow.{AxisRow}
use Rattle.command_pool.specs.declared.ending.Finish.TheVariants as finish
use Rattle.plc_types.specs.declared.group.GroupRow.{GroupRow}
use Rattle.motion_history.specs.Entries.{Entry, call, cycle, end_of}
use Rattle.motion_history.specs.Setup.{Setup}
use Rattle.motion_kernel.specs.Histories.{after, inputs_of, machine_after}
use Rattle.motion_kernel.specs.Machine.{Machine, axis_at, axis_core_at}
use Rattle.motion_kernel.specs.cycles.Cycles.{after_cycle, look_of_axis}
use Rattle.motion_kernel.specs.owners.Objects.{IsThere, Object, a_group, an_axis}
use Rattle.motion_laws.specs.causes.Axis.{CycleBrings}
use Rattle.motion_laws.specs.causes.Group.{FailsByAxis, SwitchesOff}
use Rattle.motion_laws.specs.entries.Numbers.{error_at, is_stopped_at}
use Rattle.motion_laws.specs.results.Outcomes.{end_of_command}

-- an entry brings an axis an error: a cycle may, no call and no end of a task does
abbrev pub BringsAxis : Setup → Machine → Entry → ℕ → ℕ → Type 0
BringsAxis s m (call k i reply) n error = ⊥
BringsAxis s m (cycle c rows grows) n error =
    let ins = inputs_of rows in
    CycleBrings (look_of_axis s m ins n) (axis_core_at m n)
    (axis_at (after_cycle s m ins) n).setpoint error
BringsAxis s m (end_of task) n error = ⊥

-- and a group: a call of a Power by 102, a cycle by an error of an axis
abbrev pub BringsGroup : Setup → Machine → Entry → ℕ → ℕ → Type 0
BringsGroup s m (call k i reply) j error = (error ≡ 102) × SwitchesOff s k i j
BringsGroup s m (cycle c rows grows) j error = FailsByAxis s m (inputs_of rows) j error
BringsGroup s m (end_of task) j error = ⊥

abbrev pub Brings : Setup → Machine → Entry → Object → ℕ → Type 0
Brings s m e (an_axis n) error = BringsAxis s m e n error
Brings s m e (a_group j) error = BringsGroup s m e j error

-- an axis is in ErrorStop, or a group in GroupErrorStop, with this error
pub record HasError (m : Machine) (o : Object) (error : ℕ) : Type 0 where
  pub stopped : is_stopped_at m o ≡ true
  pub is : error_at m o ≡ error

-- and stays so, after each of some entries
abbrev pub KeepsError : Setup → Object → ℕ → Machine → List Entry → Type 0
KeepsError s o error m [] = HasError m o error
KeepsError s o error m (e ∷ es) = HasError m o error × KeepsError s o error (after s m e) es

-- among some entries is one that brings it the error, outside ErrorStop, and it stays so since then
pub record IsBrought (s : Setup) (o : Object) (error : ℕ) (es : List Entry) : Type 0 where
  pub made : List Entry
  pub entry : Entry
  pub more : List Entry
  pub split : es ≡ made ++ entry ∷ more
  pub running : is_stopped_at (machine_after s made) o ≡ false
  pub brings : Brings s (machine_after s made) entry o error
  pub since : KeepsError s o error (after s (machine_after s made) entry) more

-- each error that a row of a history shows is brought so, in its cycle or in an entry before it;
-- and each error by which a command ends is brought by that entry
pub record ErrorsAreBrought (s : Setup) (es : List Entry) : Type 0 where
  pub axes : (made more : List Entry) (c n : ℕ) (rows : List AxisRow) (grows : List GroupRow)
      (r : AxisRow) → es ≡ made ++ cycle c rows grows ∷ more → slice_get rows n ≡ Some r →
      r.error ≢ 0 → IsBrought s (an_axis n) r.error (made ++ cycle c rows grows ∷ [])
  pub groups : (made more : List Entry) (c j : ℕ) (rows : List AxisRow) (grows : List GroupRow)
      (r : GroupRow) → es ≡ made ++ cycle c rows grows ∷ more → slice_get grows j ≡ Some r →
      r.error ≢ 0 → IsBrought s (a_group j) r.error (made ++ cycle c rows grows ∷ [])
  pub reported : (made more : List Entry) (e : Entry) (o : Object) (k error : ℕ) →
      es ≡ made ++ e ∷ more → IsThere (machine_after s made) o →
      end_of_command s (machine_after s made) e k o ≡ Some (finish.Error error) →
      Brings s (machine_after s made) e o error
