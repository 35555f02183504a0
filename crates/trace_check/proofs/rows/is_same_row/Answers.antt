-- What the comparison has reported.
use Rattle.std.proofs.Common.{◌∙◌, sym}
use Rattle.trace_check.proofs.Equal.{alike-row, same-row}
use Rattle.trace_check.proofs.rows.is_same_row.Goals as goal

pub returns : goal.returns
returns c = (
  λ yes. same-row _ _ (sym c.eq.ensures ∙ yes),
  λ e. c.eq.ensures ∙ rw (← e) (alike-row c.args.row.now),
)
