-- The kinds of records and where they stand. This project's profile.
use Rattle.std.specs.Prelude.{ℕ, Bool, true, false, ◌&&◌, ◌||◌, nat_le, nat_lt, codes, Option, List, [], ◌∷◌, length}
use Rattle.std.specs.List.{find}
use Rattle.std.specs.Str.{bytes_eq}
use Rattle.trace_text.specs.reading.SoFar.{SoFar}
use Rattle.trace_text.specs.declared.reading.kind.Kind.{Kind}
use Rattle.trace_text.specs.declared.reading.kind.Kind.TheVariants.{Axis, Group, Table, Task, Block, Call, Cycle, Row, Grow, End, Drive}
use Rattle.trace_text.specs.declared.reading.kind.Stage.{Stage}
use Rattle.trace_text.specs.declared.reading.kind.Stage.TheVariants as stage

-- the kinds; those that come most often stand first
abbrev pub kinds : List Kind
kinds =
    Row ∷ Cycle ∷ Call ∷ Grow ∷ End ∷ Drive ∷ Axis ∷ Group ∷ Table ∷ Task ∷ Block ∷ []

-- the first field of a record of the kind
unfoldable pub kind_text : Kind → List ℕ
kind_text Axis = codes "axis"
kind_text Group = codes "group"
kind_text Table = codes "table"
kind_text Task = codes "task"
kind_text Block = codes "block"
kind_text Call = codes "call"
kind_text Cycle = codes "cycle"
kind_text Row = codes "row"
kind_text Grow = codes "grow"
kind_text End = codes "end"
kind_text Drive = codes "drive"

-- the kind of a record by its first field
unfoldable pub kind_of : List ℕ → Option Kind
kind_of text = find (λ k. bytes_eq (kind_text k) text) kinds

-- whether two stages are the same
abbrev pub is_stage : Stage → Stage → Bool
is_stage stage.Header stage.Header = true
is_stage stage.Room stage.Room = true
is_stage stage.Machine stage.Machine = true
is_stage stage.Entries stage.Entries = true
is_stage stage.Rows stage.Rows = true
is_stage stage.Drives stage.Drives = true
is_stage _ _ = false

-- the items of a machine stand in this order
abbrev pub rank_of : Kind → ℕ
rank_of Axis = 0
rank_of Group = 1
rank_of Table = 2
rank_of Task = 3
rank_of Block = 4
rank_of _ = 5

-- whether an item of a kind may stand here: in the machine part, and after no later kind
abbrev pub is_item_here : SoFar → Kind → Bool
is_item_here s kind = is_stage s.stage stage.Machine && nat_le (rank_of s.last) (rank_of kind)

-- whether an entry may begin here: after the machine part, and in no cycle
abbrev pub is_entry_here : SoFar → Bool
is_entry_here s = is_stage s.stage stage.Machine || is_stage s.stage stage.Entries

-- whether a record of a kind may stand here: the items in their order, then the entries, each cycle
-- with a row for each axis and then one for each group, then a record for each drive
unfoldable pub is_here : SoFar → Kind → Bool
is_here s Axis = is_item_here s Axis
is_here s Group = is_item_here s Group
is_here s Table = is_item_here s Table
is_here s Task = is_item_here s Task
is_here s Block = is_item_here s Block
is_here s Call = is_entry_here s
is_here s Cycle = is_entry_here s
is_here s End = is_entry_here s
is_here s Row = is_stage s.stage stage.Rows && nat_lt (length s.cycle.axes) (length s.setup.axes)
is_here s Grow = is_stage s.stage stage.Rows && nat_le (length s.setup.axes) (length s.cycle.axes)
is_here s Drive =
    (is_entry_here s || is_stage s.stage stage.Drives) &&
    nat_lt (length s.drives) (length s.setup.axes)
