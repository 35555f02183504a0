-- How a lock is kept. This project's profile.
use Rattle.std.specs.Prelude.{◌≡◌}
use Rattle.atomic_table.specs.Seated.{TableId}
use Rattle.crossbeam_utils.specs.Padded.{padded_value}
use Rattle.kernel_turn.specs.declared.kernel_turn.KernelTurn.TheInside.{Inside}

-- a lock is known by its table
abbrev pub table_of : Inside → TableId
table_of t = (padded_value t.table).shared.table_id

-- it has two words and one place
pub record IsSized (t : Inside) : Type 0 where
  pub words : (padded_value t.table).shared.table_id.words ≡ 2
  pub slots : (padded_value t.table).shared.table_id.slots ≡ 1
