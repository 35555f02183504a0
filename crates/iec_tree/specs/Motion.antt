-- The motion function blocks. PLCopen Motion Control Part 1 and Part 4.
use Rattle.std.specs.Prelude.{ℕ, codes, Bool, ◌&&◌, nat_le, if◌then◌else◌, Option, List, length, take, drop}
use Rattle.std.specs.List.{find}
use Rattle.std.specs.Str.{str_eq_ignore_ascii_case}
use Rattle.iec_tree.specs.declared.motion.Motion.{Motion}
use Rattle.iec_tree.specs.declared.motion.Motion.TheVariants as motion
use Rattle.iec_tree.specs.declared.motion.TheConstants.{MOTION}

-- how each is written after `MC_`
unfoldable pub motion_text : Motion → List ℕ
motion_text motion.Power = codes "Power"
motion_text motion.Reset = codes "Reset"
motion_text motion.Home = codes "Home"
motion_text motion.Stop = codes "Stop"
motion_text motion.Halt = codes "Halt"
motion_text motion.MoveAbsolute = codes "MoveAbsolute"
motion_text motion.MoveRelative = codes "MoveRelative"
motion_text motion.MoveAdditive = codes "MoveAdditive"
motion_text motion.MoveVelocity = codes "MoveVelocity"
motion_text motion.GearIn = codes "GearIn"
motion_text motion.GearInPos = codes "GearInPos"
motion_text motion.GearOut = codes "GearOut"
motion_text motion.CamIn = codes "CamIn"
motion_text motion.CamOut = codes "CamOut"
motion_text motion.SetOverride = codes "SetOverride"
motion_text motion.GroupEnable = codes "GroupEnable"
motion_text motion.GroupDisable = codes "GroupDisable"
motion_text motion.GroupReset = codes "GroupReset"
motion_text motion.GroupStop = codes "GroupStop"
motion_text motion.GroupHalt = codes "GroupHalt"
motion_text motion.MoveLinearAbsolute = codes "MoveLinearAbsolute"
motion_text motion.MoveCircularAbsolute = codes "MoveCircularAbsolute"
motion_text motion.GroupSetOverride = codes "GroupSetOverride"
motion_text motion.ReadActualPosition = codes "ReadActualPosition"
motion_text motion.ReadActualVelocity = codes "ReadActualVelocity"
motion_text motion.ReadStatus = codes "ReadStatus"
motion_text motion.ReadAxisError = codes "ReadAxisError"

-- a name begins with `MC_`
abbrev pub has_prefix : List ℕ → Bool
has_prefix name =
    nat_le 3 (length name) && str_eq_ignore_ascii_case (take 3 name) (codes "MC_")

-- a name without `MC_` in front
unfoldable pub without_prefix : List ℕ → List ℕ
without_prefix name = if has_prefix name then drop 3 name else name

-- the one of this name, with `MC_` in front or without it, in any case of letters
unfoldable pub motion_named : List ℕ → Option Motion
motion_named name =
    find (λ m. str_eq_ignore_ascii_case (motion_text m) (without_prefix name)) MOTION
