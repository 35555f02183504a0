-- The inputs of motion blocks besides their object. PLCopen Motion Control Part 1 and Part 4; that
-- an override has one factor, and Position1 to Position6, are this project's profile.
use Rattle.std.specs.Prelude.{ℕ, codes, Bool, true, false, if◌then◌else◌, Option, List, [], ◌∷◌, ◌++◌}
use Rattle.std.specs.List.{find}
use Rattle.std.specs.Str.{str_eq_ignore_ascii_case}
use Rattle.iec_tree.specs.declared.elementary.Elementary.TheVariants as elementary
use Rattle.iec_tree.specs.declared.motion.Motion.{Motion}
use Rattle.iec_tree.specs.declared.motion.Motion.TheVariants as block
use Rattle.iec_interface.specs.declared.input.Input.{Input}
use Rattle.iec_interface.specs.declared.input.Input.TheVariants as input
use Rattle.iec_interface.specs.declared.input.Taken.{Taken}
use Rattle.iec_interface.specs.declared.input.Taken.TheVariants as taken

-- how each is written
unfoldable pub input_text : Input → List ℕ
input_text input.Enable = codes "Enable"
input_text input.Execute = codes "Execute"
input_text input.Position = codes "Position"
input_text input.Distance = codes "Distance"
input_text input.Velocity = codes "Velocity"
input_text input.Acceleration = codes "Acceleration"
input_text input.Deceleration = codes "Deceleration"
input_text input.Jerk = codes "Jerk"
input_text input.Direction = codes "Direction"
input_text input.BufferMode = codes "BufferMode"
input_text input.Master = codes "Master"
input_text input.RatioNumerator = codes "RatioNumerator"
input_text input.RatioDenominator = codes "RatioDenominator"
input_text input.MasterSyncPosition = codes "MasterSyncPosition"
input_text input.SlaveSyncPosition = codes "SlaveSyncPosition"
input_text input.CamTableId = codes "CamTableID"
input_text input.MasterOffset = codes "MasterOffset"
input_text input.SlaveOffset = codes "SlaveOffset"
input_text input.VelFactor = codes "VelFactor"
input_text input.Position1 = codes "Position1"
input_text input.Position2 = codes "Position2"
input_text input.Position3 = codes "Position3"
input_text input.Position4 = codes "Position4"
input_text input.Position5 = codes "Position5"
input_text input.Position6 = codes "Position6"

-- the rates of a motion that speeds up and slows down
abbrev pub rates : List Input
rates = input.Acceleration ∷ input.Deceleration ∷ input.Jerk ∷ []

-- how a gear follows its master
abbrev pub ratio : List Input
ratio = input.Master ∷ input.RatioNumerator ∷ input.RatioDenominator ∷ []

-- the rates and the buffer mode, in which each motion that may wait ends
abbrev pub rates_and_mode : List Input
rates_and_mode = rates ++ (input.BufferMode ∷ [])

-- the same with a direction
abbrev pub rates_and_direction : List Input
rates_and_direction = rates ++ (input.Direction ∷ input.BufferMode ∷ [])

-- what a motion by a distance takes
abbrev pub distance : List Input
distance = input.Execute ∷ input.Distance ∷ input.Velocity ∷ rates_and_mode

-- the positions of a group's axes, each by itself
abbrev pub positions : List Input
positions =
    input.Position1 ∷ input.Position2 ∷ input.Position3
    ∷ input.Position4 ∷ input.Position5 ∷ input.Position6 ∷ []

-- what a motion along a path takes
abbrev pub path : List Input
path = input.Execute ∷ input.Position ∷ positions ++ (input.Velocity ∷ rates_and_mode)

-- the inputs of each block, in the order of its declaration
unfoldable pub inputs_of : Motion → List Input
inputs_of block.Power = input.Enable ∷ []
inputs_of block.Reset = input.Execute ∷ []
inputs_of block.Home = input.Execute ∷ input.Position ∷ []
inputs_of block.Stop = input.Execute ∷ input.Deceleration ∷ input.Jerk ∷ []
inputs_of block.Halt = input.Execute ∷ input.Deceleration ∷ input.Jerk ∷ []
inputs_of block.MoveAbsolute =
    input.Execute ∷ input.Position ∷ input.Velocity ∷ rates_and_direction
inputs_of block.MoveRelative = distance
inputs_of block.MoveAdditive = distance
inputs_of block.MoveVelocity = input.Execute ∷ input.Velocity ∷ rates_and_direction
inputs_of block.GearIn = input.Execute ∷ ratio ++ rates_and_mode
inputs_of block.GearInPos =
    input.Execute ∷ ratio
    ++ (input.MasterSyncPosition ∷ input.SlaveSyncPosition ∷ input.Velocity ∷ rates_and_mode)
inputs_of block.GearOut = input.Execute ∷ []
inputs_of block.CamIn =
    input.Execute ∷ input.Master ∷ input.CamTableId ∷ input.MasterOffset ∷ input.SlaveOffset
    ∷ input.Velocity ∷ rates_and_mode
inputs_of block.CamOut = input.Execute ∷ []
inputs_of block.SetOverride = input.Enable ∷ input.VelFactor ∷ []
inputs_of block.GroupEnable = input.Execute ∷ []
inputs_of block.GroupDisable = input.Execute ∷ []
inputs_of block.GroupReset = input.Execute ∷ []
inputs_of block.GroupStop = input.Execute ∷ input.Deceleration ∷ input.Jerk ∷ []
inputs_of block.GroupHalt = input.Execute ∷ input.Deceleration ∷ input.Jerk ∷ []
inputs_of block.MoveLinearAbsolute = path
inputs_of block.MoveCircularAbsolute = path
inputs_of block.GroupSetOverride = input.Enable ∷ input.VelFactor ∷ []
inputs_of block.ReadActualPosition = input.Enable ∷ []
inputs_of block.ReadActualVelocity = input.Enable ∷ []
inputs_of block.ReadStatus = input.Enable ∷ []
inputs_of block.ReadAxisError = input.Enable ∷ []

-- the input of a block that is written so, in any case of letters
unfoldable pub input_of : Motion → List ℕ → Option Input
input_of m name = find (λ i. str_eq_ignore_ascii_case (input_text i) name) (inputs_of m)

-- a block moves a group along a path
abbrev pub is_on_path : Motion → Bool
is_on_path block.MoveLinearAbsolute = true
is_on_path block.MoveCircularAbsolute = true
is_on_path _ = false

-- what an input of a block takes; Position of a path takes one for each axis
unfoldable pub taken_by : Motion → Input → Taken
taken_by _ input.Enable = taken.Value elementary.Bool
taken_by _ input.Execute = taken.Value elementary.Bool
taken_by m input.Position = if is_on_path m then taken.Positions else taken.Value elementary.Lreal
taken_by _ input.Direction = taken.Direction
taken_by _ input.BufferMode = taken.BufferMode
taken_by _ input.Master = taken.Axis
taken_by _ input.RatioNumerator = taken.Value elementary.Dint
taken_by _ input.RatioDenominator = taken.Value elementary.Dint
taken_by _ input.CamTableId = taken.Value elementary.Dint
taken_by _ _ = taken.Value elementary.Lreal
