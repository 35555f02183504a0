-- What a call says of a text that it read. This project's profile.
use Rattle.std.specs.Prelude.{◌≡◌, ◌≤◌, ℕ, Some, None, Result, Ok, Err, List, length}
use Rattle.motion_history.specs.Faults.{whole_fault}
use Rattle.motion_history.specs.Setup.{Setup}
use Rattle.motion_history.specs.declared.refused.TextFault.{TextFault}
use Rattle.motion_history.specs.declared.refused.TextFault.TheVariants.{Refused, OutOfMemory}
use Rattle.motion_history.specs.declared.refused.TextRefused.{TextRefused}
use Rattle.st_check.specs.Going.{Going, begun, going_after}
use Rattle.st_check.specs.Reading.{Outcome}
use Rattle.st_check.specs.declared.text.Told.{Told}
use Rattle.st_tree.specs.Parts.{Parts}
use Rattle.st_tree.specs.Places.{Leads, Outside, blocks_in, lead, names_in}

-- the answer, and what the machine is now, are this reading: what the text was read as, or the
-- refusal; or memory ran out
abbrev pub TellsBy : Result Outcome TextRefused → Result Told TextFault → Setup → Type 0
TellsBy read (Ok t) s = read ≡ Ok (record { setup = s; names = t.names.items; parts = t.parts.items })
TellsBy read (Err (Refused r)) s = read ≡ Err r
TellsBy read (Err OutOfMemory) s = Unit {0}

-- what a text is read as that breaks no rule: names and parts are those of trees; the machine is
-- whole, has their blocks, and the axes that it had; and their calls fit it
pub record IsWhole (first after : Setup) (names : List (List ℕ)) (parts : Parts) : Type 0 where
  pub leads : Leads Outside parts
  pub named : length names ≡ names_in parts
  pub few : blocks_in parts ≤ length after.blocks
  pub whole : whole_fault after ≡ None
  pub axes : after.axes ≡ first.axes
  pub going : Going
  pub led : lead (going_after after) begun parts ≡ Some going
  pub tasks : going.tasks ≡ length after.tasks
