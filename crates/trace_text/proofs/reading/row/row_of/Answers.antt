-- The fields by their places.
use Rattle.std.specs.Prelude.{ℕ, ℤ, List, Option}
use Rattle.std.proofs.Common.{subst, sym}
use Rattle.plc_types.specs.declared.axis.AxisRow.{AxisRow}
use Rattle.line_text.specs.Reading.{Gives}
use Rattle.trace_text.specs.reading.Rows.{row_meaning}
use Rattle.trace_text.proofs.read.Eleven.{texts-eleven}
use Rattle.trace_text.proofs.reading.row.row_of.Goals as goal

pub returns : goal.returns
unfolding row_meaning
returns c =
    let P : List (List ℕ) → Type 0 = λ t. Gives {X = AxisRow × Option ℤ} {Y = AxisRow × Option ℤ} (λ r. r) (row_meaning c.args.version c.args.machine.now c.args.axis t) c.row_by.result in
    subst P (sym (texts-eleven c.args.fields.now c.in-len11.len_at_least c.in-len11.len_below)) c.row_by.ensures
