-- The items so far.
use Rattle.std.proofs.Common.{◌≡◌, ◌++◌, map, take}
use Rattle.std.specs.List.{filter_map}
use Rattle.toml.specs.Data.{as_table}
use Rattle.toml.specs.View.{view}
use Rattle.machine_config.specs.Reading.{of_kind}
use Rattle.machine_config.specs.Shown.{shown}
use Rattle.machine_config.proofs.item.push_items.Given as goal

abbrev pub invariant-loop-value : goal.invariant-loop-value
invariant-loop-value l = shown l.items.items ≡ shown l.fn.items.items ++ of_kind l.kind (filter_map as_table (map view (take l.value-index l.values)))
