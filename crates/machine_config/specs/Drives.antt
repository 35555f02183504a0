-- The drives of a configuration. This project's profile.
use Rattle.std.specs.Prelude.{ℕ, Result}
use Rattle.machine_words.specs.Drives.{drive_in}
use Rattle.motion_history.specs.declared.drives.DriveDef.{DriveDef}
use Rattle.toml.specs.Data.{Members}
use Rattle.machine_config.specs.Values.{integer_at, integers_at}
use Rattle.machine_config.specs.declared.key.Key.TheVariants.{Faults, Lag}
use Rattle.machine_config.specs.RuleNumbers.{drive_rules}

-- the drive of an axis: its lag, and its faults in rising steps from 1, not too many
unfoldable pub drive_of : Members → Result DriveDef ℕ
drive_of table = drive_in drive_rules (integer_at Lag table) (integers_at Faults table)
