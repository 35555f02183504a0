-- The rows of the table, without where their items lie in memory.
use Rattle.std.specs.Prelude.{List, ◌++◌}
use Rattle.st_grammar.specs.declared.item.Item.{Item}
use Rattle.st_grammar.specs.declared.note.Note.{Note}
use Rattle.st_grammar.specs.declared.note.Row.{Row}
use Rattle.st_grammar.specs.declared.note.Row.TheVariants as row

-- what a token does where an item is expected: it is taken, and other items are expected in the
-- item's place; or the item ends in front of it; or it doesn't fit
pub data Line : Type 0 where
  takes : Note → List Item → Line
  passes : Note → Line
  refuses : Line

-- the line that a row of the code is
abbrev pub line_of : Row → Line
line_of (row.Takes note items) = takes note items.now
line_of (row.Begins note first behind) = takes note (first.now ++ behind.now)
line_of (row.Passes note) = passes note
line_of row.Refuses = refuses
