-- How the items of a row are kept: in the front of ten places.
use Rattle.std.specs.Prelude.{◌≡◌, ◌≤◌, List, take, length}
use Rattle.iec_grammar.specs.declared.item.Item.{Item}
use Rattle.iec_grammar.specs.declared.row.Items.TheInside.{Inside}

-- the items
abbrev pub items_of : Inside → List Item
items_of i = take i.len i.items

-- they stand in ten places
pub record IsItems (i : Inside) : Type 0 where
  pub room : length i.items ≡ 10
  pub few : i.len ≤ 10
