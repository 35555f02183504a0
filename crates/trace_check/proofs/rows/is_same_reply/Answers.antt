-- What the comparison has reported.
use Rattle.std.proofs.Common.{◌∙◌, sym}
use Rattle.trace_check.proofs.Equal.{alike-outputs, same-outputs}
use Rattle.trace_check.proofs.rows.is_same_reply.Goals as goal

pub returns : goal.returns
returns c = (
  λ yes. same-outputs _ _ (sym c.eq.ensures ∙ yes),
  λ e. c.eq.ensures ∙ rw (← e) (alike-outputs c.args.reply.now),
)
