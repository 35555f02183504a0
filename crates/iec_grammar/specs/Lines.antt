-- The lines of the table.
use Rattle.std.specs.Prelude.{Option, List}
use Rattle.iec_grammar.specs.declared.item.Item.{Item}
use Rattle.iec_grammar.specs.declared.row.Row.{Row}
use Rattle.iec_grammar.specs.declared.row.Row.TheVariants as row
use Rattle.iec_tree.specs.declared.node.Part.{Part}

-- what a token does where an item is expected: it is taken, and other items are expected in the
-- item's place; or the item ends in front of it; or it doesn't fit; or the name in front of it is
-- none that may stand there. Where it says something of the tree, that is a part
pub data Line : Type 0 where
  takes : Option Part → List Item → Line
  passes : Option Part → Line
  refuses : Line
  misnamed : Line

-- the line that a row of the code is
abbrev pub line_of : Row → Line
line_of (row.Takes part items) = takes part items
line_of (row.Passes part) = passes part
line_of row.Refuses = refuses
line_of row.Misnamed = misnamed
