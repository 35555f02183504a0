-- The outputs of motion blocks. PLCopen Motion Control Part 1 and Part 4.
use Rattle.std.specs.Prelude.{ℕ, codes, Option, List, [], ◌∷◌}
use Rattle.std.specs.List.{find}
use Rattle.std.specs.Str.{str_eq_ignore_ascii_case}
use Rattle.iec_tree.specs.declared.elementary.Elementary.{Elementary}
use Rattle.iec_tree.specs.declared.elementary.Elementary.TheVariants as elementary
use Rattle.iec_tree.specs.declared.motion.Motion.{Motion}
use Rattle.iec_tree.specs.declared.motion.Motion.TheVariants as block
use Rattle.iec_interface.specs.declared.output.Output.{Output}
use Rattle.iec_interface.specs.declared.output.Output.TheVariants as output

-- how each is written
unfoldable pub output_text : Output → List ℕ
output_text output.Done = codes "Done"
output_text output.InVelocity = codes "InVelocity"
output_text output.InGear = codes "InGear"
output_text output.InSync = codes "InSync"
output_text output.Status = codes "Status"
output_text output.Enabled = codes "Enabled"
output_text output.Valid = codes "Valid"
output_text output.Busy = codes "Busy"
output_text output.Active = codes "Active"
output_text output.CommandAborted = codes "CommandAborted"
output_text output.Error = codes "Error"
output_text output.ErrorId = codes "ErrorID"
output_text output.Position = codes "Position"
output_text output.Velocity = codes "Velocity"
output_text output.ErrorStop = codes "ErrorStop"
output_text output.Disabled = codes "Disabled"
output_text output.Stopping = codes "Stopping"
output_text output.Homing = codes "Homing"
output_text output.Standstill = codes "Standstill"
output_text output.DiscreteMotion = codes "DiscreteMotion"
output_text output.ContinuousMotion = codes "ContinuousMotion"
output_text output.SynchronizedMotion = codes "SynchronizedMotion"
output_text output.AxisErrorId = codes "AxisErrorID"

-- the outputs of an error
abbrev pub errors : List Output
errors = output.Error ∷ output.ErrorId ∷ []

-- those of a command that is done at once
abbrev pub once : List Output
once = output.Done ∷ output.Busy ∷ output.CommandAborted ∷ errors

-- those of a motion that shows by this output that it has reached what it was called for
abbrev pub motion : Output → List Output
motion reached = reached ∷ output.Busy ∷ output.Active ∷ output.CommandAborted ∷ errors

-- those of a block that acts in each call with Enable, and shows it by this output
abbrev pub level : Output → List Output
level shown = shown ∷ output.Busy ∷ errors

-- those of a block that reads an axis: `level` with what it reads
abbrev pub reads : List Output → List Output
reads read = output.Valid ∷ output.Busy ∷ output.Error ∷ output.ErrorId ∷ read

-- the states of an axis
abbrev pub states : List Output
states =
    output.ErrorStop ∷ output.Disabled ∷ output.Stopping ∷ output.Homing ∷ output.Standstill
    ∷ output.DiscreteMotion ∷ output.ContinuousMotion ∷ output.SynchronizedMotion ∷ []

-- the outputs of each block, in the order of its declaration
unfoldable pub outputs_of : Motion → List Output
outputs_of block.Power = level output.Status
outputs_of block.Reset = once
outputs_of block.Home = motion output.Done
outputs_of block.Stop = motion output.Done
outputs_of block.Halt = motion output.Done
outputs_of block.MoveAbsolute = motion output.Done
outputs_of block.MoveRelative = motion output.Done
outputs_of block.MoveAdditive = motion output.Done
outputs_of block.MoveVelocity = motion output.InVelocity
outputs_of block.GearIn = motion output.InGear
outputs_of block.GearInPos = motion output.InSync
outputs_of block.GearOut = once
outputs_of block.CamIn = motion output.InSync
outputs_of block.CamOut = once
outputs_of block.SetOverride = level output.Enabled
outputs_of block.GroupEnable = once
outputs_of block.GroupDisable = once
outputs_of block.GroupReset = once
outputs_of block.GroupStop = motion output.Done
outputs_of block.GroupHalt = motion output.Done
outputs_of block.MoveLinearAbsolute = motion output.Done
outputs_of block.MoveCircularAbsolute = motion output.Done
outputs_of block.GroupSetOverride = level output.Enabled
outputs_of block.ReadActualPosition = reads (output.Position ∷ [])
outputs_of block.ReadActualVelocity = reads (output.Velocity ∷ [])
outputs_of block.ReadStatus = reads states
outputs_of block.ReadAxisError = reads (output.AxisErrorId ∷ [])

-- the output of a block that is written so, in any case of letters
unfoldable pub output_of : Motion → List ℕ → Option Output
output_of m name = find (λ o. str_eq_ignore_ascii_case (output_text o) name) (outputs_of m)

-- the type of an output
unfoldable pub type_of : Output → Elementary
type_of output.ErrorId = elementary.Dint
type_of output.AxisErrorId = elementary.Dint
type_of output.Position = elementary.Lreal
type_of output.Velocity = elementary.Lreal
type_of _ = elementary.Bool
