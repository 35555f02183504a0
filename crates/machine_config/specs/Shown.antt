-- Items without where they lie in memory.
use Rattle.std.specs.Prelude.{List, map, String}
use Rattle.std.specs.Borrow.{Bor}
use Rattle.std.specs.BTreeMap.{BTreeMap}
use Rattle.std.specs.declared.alloc.Global.{Global}
use Rattle.toml.specs.Data.{Members}
use Rattle.toml.specs.View.{table_view}
use Rattle.toml.specs.declared.value.Value.{Value}
use Rattle.machine_config.specs.declared.item.ItemKind.{ItemKind}

-- the items whose tables the references show
abbrev pub shown : List (ItemKind × Bor (BTreeMap (String Global) Value)) →
    List (ItemKind × Members)
shown items = map (λ i. (i.0, table_view i.1.now)) items
