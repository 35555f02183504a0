-- What a motion block acts on, and the inputs by which a call gives it. PLCopen Motion Control Part
-- 1 and Part 4; that a follower's axis may be given as Axis too is this project's profile.
use Rattle.std.specs.Prelude.{ℕ, codes, Bool, true, false, List, [], ◌∷◌}
use Rattle.std.specs.List.{list_any}
use Rattle.std.specs.Str.{str_eq_ignore_ascii_case}
use Rattle.iec_tree.specs.declared.motion.Motion.{Motion}
use Rattle.iec_tree.specs.declared.motion.Motion.TheVariants as block
use Rattle.iec_interface.specs.declared.object.Object.{Object}
use Rattle.iec_interface.specs.declared.object.Object.TheVariants as object

-- what each block acts on
unfoldable pub object_of : Motion → Object
object_of block.GroupEnable = object.Group
object_of block.GroupDisable = object.Group
object_of block.GroupReset = object.Group
object_of block.GroupStop = object.Group
object_of block.GroupHalt = object.Group
object_of block.MoveLinearAbsolute = object.Group
object_of block.MoveCircularAbsolute = object.Group
object_of block.GroupSetOverride = object.Group
object_of _ = object.Axis

-- a block makes its axis follow a master, or ends that
abbrev pub follows : Motion → Bool
follows block.GearIn = true
follows block.GearInPos = true
follows block.GearOut = true
follows block.CamIn = true
follows block.CamOut = true
follows _ = false

-- the inputs by which a call may give what its block acts on
abbrev pub texts_of : Object → Bool → List (List ℕ)
texts_of object.Group _ = codes "AxesGroup" ∷ []
texts_of object.Axis false = codes "Axis" ∷ []
texts_of object.Axis true = codes "Axis" ∷ codes "Slave" ∷ []

-- a call of a block gives its axis or group by this name
unfoldable pub names_object : Motion → List ℕ → Bool
names_object m name =
    list_any (λ text. str_eq_ignore_ascii_case name text) (texts_of (object_of m) (follows m))
