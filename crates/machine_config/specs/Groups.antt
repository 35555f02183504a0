-- The groups of a configuration. This project's profile.
use Rattle.std.specs.Prelude.{ℕ, Result, Ok, [], ◌∷◌, ◌++◌}
use Rattle.line_text.specs.Reading.{◌>>=◌, each_of}
use Rattle.line_text.specs.Rules.{broken_unless}
use Rattle.machine_words.specs.Names.{axis_named}
use Rattle.machine_words.specs.Rules.{broken_by}
use Rattle.motion_history.specs.Faults.{group_fault}
use Rattle.motion_history.specs.Members.{group_of}
use Rattle.toml.specs.Data.{Members}
use Rattle.machine_config.specs.Cases.{is_apart}
use Rattle.machine_config.specs.Keys.{group_keys, has_keys}
use Rattle.machine_config.specs.Rules.{rule_of}
use Rattle.machine_config.specs.Values.{text_at, texts_at}
use Rattle.machine_config.specs.declared.key.Key.TheVariants.{Axes, Name}
use Rattle.machine_config.specs.declared.machine.Machine.{Machine}
use Rattle.machine_config.specs.RuleNumbers.{wrong_key, wrong_name}

-- what the table of a group makes of a machine: it has the keys of a group (else C2), its axes are
-- there, its name is free, and its axes are free and come once (C4), and they are 2 to 6 (C6)
unfoldable pub group_meaning : Machine → Members → Result Machine ℕ
group_meaning m table = do
  _ ← broken_unless (has_keys group_keys table) wrong_key
  axes ← each_of (axis_named wrong_name m.config) (texts_at Axes table)
  _ ← broken_unless (is_apart m (text_at Name table)) wrong_name
  _ ← broken_by rule_of (group_fault m.config (text_at Name table) axes)
  Ok (record m {
    config = record m.config {
      groups = m.config.groups ++ group_of (text_at Name table) axes ∷ [];
    };
  })
