-- The drives of a bench. This project's profile.
use Rattle.std.specs.Prelude.{ℕ, Bool, false, nat_eq, Option, Some, None, Result, Ok, Err, List, [], ◌∷◌}
use Rattle.std.specs.List.{list_any}
use Rattle.line_text.specs.Reading.{◌>>=◌, each_of}
use Rattle.machine_words.specs.Drives.{drive_in}
use Rattle.machine_words.specs.Names.{axis_at, axis_named}
use Rattle.machine_words.specs.Numbers.{number}
use Rattle.machine_words.specs.RuleNumbers.{out_of_range, too_many, wrong_count, wrong_name}
use Rattle.machine_words.specs.declared.rule.ItemRules.{ItemRules}
use Rattle.motion_history.specs.Setup.{Setup}
use Rattle.motion_history.specs.declared.drives.DriveDef.{DriveDef}

-- the rules that the numbers of an item break
abbrev pub item_rules : ItemRules
item_rules = record { wrong = out_of_range; too_many = too_many }

-- `drive AXIS LAG FAULT ..`: a lag, and rising fault steps from 1
unfoldable pub drive_meaning : Setup → List (List ℕ) → Result (ℕ × DriveDef) ℕ
drive_meaning s (name ∷ lag ∷ faults) = do
  axis ← axis_named wrong_name s name
  steps_behind ← number lag
  numbers ← each_of number faults
  drive ← drive_in item_rules steps_behind numbers
  Ok (axis, drive)
drive_meaning s _ = Err wrong_count

-- whether a number is one of some numbers
abbrev pub has_number : List ℕ → ℕ → Bool
has_number numbers number = list_any (nat_eq number) numbers

-- whether the axis, if there is one, is among these
abbrev pub is_among : Option ℕ → List ℕ → Bool
is_among None stated = false
is_among (Some axis) stated = has_number stated axis

-- whether a line states the drive of an axis whose drive is stated
unfoldable pub is_stated : Setup → List ℕ → List (List ℕ) → Bool
is_stated s stated [] = false
is_stated s stated (name ∷ words) = is_among (axis_at s name) stated
