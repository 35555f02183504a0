-- The drives of a text. This project's profile.
use Rattle.std.specs.Prelude.{ℕ, ℤ, nat_le, Result, Ok, List, length}
use Rattle.line_text.specs.Reading.{◌>>=◌, each_of}
use Rattle.line_text.specs.Rules.{broken_unless, in_range}
use Rattle.motion_history.specs.Drives.{rise_above}
use Rattle.motion_history.specs.declared.drives.DriveDef.{DriveDef}
use Rattle.machine_words.specs.declared.rule.ItemRules.{ItemRules}

-- a drive with a lag, and faults in rising steps from 1, not too many
unfoldable pub drive_in : ItemRules → ℤ → List ℤ → Result DriveDef ℕ
drive_in rules lag faults = do
  few_behind ← in_range 0 64 rules.wrong lag
  steps ← each_of (in_range 1 4294967295 rules.wrong) faults
  _ ← broken_unless (rise_above 0 steps) rules.wrong
  _ ← broken_unless (nat_le (length steps) 1000) rules.too_many
  Ok (record { lag = few_behind; faults = steps })
