-- What a group asks before it takes a step along its path.
use Rattle.std.specs.Prelude.{◌≡◌, ◌≤◌, pos, Option, IfSome}
use Rattle.group_core.specs.GroupKept.{AreNumbers}
use Rattle.group_core.specs.Tracks.{IsMotionKept, OnPath, length_of}
use Rattle.group_core.specs.declared.group.Group.{Group}

-- a path of at most six axes that can be stopped, and ends where its way does
pub record IsStepping (p : OnPath) : Type 0 where
  pub axes : p.way.count ≤ 6
  pub length : p.motion.limits.hi ≡ pos (length_of p.way)
  pub motion : IsMotionKept p.motion

-- a group may take a step: its path can be stopped, and its command's rates are in their ranges
pub record MayStep (g : Group) (p : Option OnPath) : Type 0 where
  pub path : IfSome p IsStepping
  pub active : IfSome g.active (λ w. AreNumbers w.kind w)
