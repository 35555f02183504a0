-- What the comparison has reported.
use Rattle.std.proofs.Common.{◌∙◌, sym}
use Rattle.trace_text.proofs.SameInputs.{alike-inputs, same-inputs}
use Rattle.trace_text.proofs.same.are_same_inputs.Goals as goal

pub returns-clause-same : goal.returns-clause-same
returns-clause-same c = λ yes. same-inputs _ _ (sym c.eq.ensures ∙ yes)

pub returns-clause-exact : goal.returns-clause-exact
returns-clause-exact c = λ e. c.eq.ensures ∙ rw (← e) (alike-inputs c.args.inputs.now)
