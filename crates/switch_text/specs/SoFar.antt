-- Where a switch file stands after some of its lines. This project's profile.
use Rattle.std.specs.Prelude.{Bool, List}
use Rattle.switch_text.specs.declared.switch.Switch.{Switch}
use Rattle.motion_history.specs.Setup.{Setup}

-- a switch file as far as it was read: the machine, whether the version was reported, and the
-- switches so far
pub record SoFar : Type 0 where
  pub setup : Setup
  pub begun : Bool
  pub switches : List Switch
