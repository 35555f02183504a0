-- The cam tables of a configuration. This project's profile.
use Rattle.std.specs.Prelude.{ℕ, Result, Ok}
use Rattle.line_text.specs.Reading.{◌>>=◌, each_of}
use Rattle.line_text.specs.Rules.{broken_unless}
use Rattle.machine_words.specs.Tables.{table_added}
use Rattle.toml.specs.Data.{Members}
use Rattle.machine_config.specs.Keys.{has_keys, table_keys}
use Rattle.machine_config.specs.Quantities.{point_of}
use Rattle.machine_config.specs.Values.{texts_at}
use Rattle.machine_config.specs.declared.key.Key.TheVariants.{Points}
use Rattle.machine_config.specs.declared.machine.Machine.{Machine}
use Rattle.machine_config.specs.RuleNumbers.{table_rules, wrong_key}

-- what the table of a cam table makes of a machine: it has the keys of one (else C2), and its
-- points are points of quantities (C3) that make a cam table (C7), for which there is room (C6)
unfoldable pub table_meaning : Machine → Members → Result Machine ℕ
table_meaning m table = do
  _ ← broken_unless (has_keys table_keys table) wrong_key
  points ← each_of point_of (texts_at Points table)
  config ← table_added table_rules m.config points
  Ok (record m { config = config })
