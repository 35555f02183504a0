-- The keys that are left are known where all are.
use Rattle.std.proofs.Common.{◌≡◌}
use Rattle.toml.specs.View.{members_view, table_view}
use Rattle.machine_config.specs.Keys.{has_known}
use Rattle.machine_config.proofs.key.has_known.Given as goal

abbrev pub invariant-loop-word : goal.invariant-loop-word
invariant-loop-word l = has_known l.keys (table_view l.table) ≡ has_known l.keys (members_view l.word-iterator)
