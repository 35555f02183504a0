-- A place goes on over the lines of repeats, and stands at the same point.
use Rattle.std.proofs.Common.{◌≡◌, true, Some, sym, ◌∙◌, ap, subst}
use Rattle.std.specs.Prelude.{slice_get}
use Rattle.plc_program.specs.declared.program.Instruction.TheVariants.{Repeat}
use Rattle.task_run.specs.Runs.{is_call_or_none}
use Rattle.task_run.proofs.Places.{entered}
use Rattle.task_run.proofs.Settled.{none-line, plain-line}
use Rattle.task_run.proofs.place.settled.Goals as goal

pub loop-line-preserved-in-Repeat : goal.loop-line-preserved-in-Repeat
loop-line-preserved-in-Repeat c =
    let at : slice_get c.args.lines.now c.loop-line.place.line ≡ Some (Repeat c.in-Repeat.count) = sym c.line_at.ensures ∙ c.in-Some.is ∙ ap (λ l. Some l) c.in-Repeat.is in
    rw c.entered-place.ensures (λ p t s. entered c.args.lines.now c.loop-line.place c.in-Repeat.count c.requires.task at p t (c.loop-line.invariant p t s))

pub again-requires-clause-line : goal.again-requires-clause-line
again-requires-clause-line c = sym c.line_at.ensures ∙ c.in-Some.is ∙ ap (λ l. Some l) c.in-Again.is

pub returns-in_default-line-clause-settled : goal.returns-in_default-line-clause-settled
returns-in_default-line-clause-settled c =
    subst (λ o. is_call_or_none o ≡ true) (sym (sym c.line_at.ensures ∙ c.in-Some.is)) (plain-line c.in-Some.line c.in_default-line.not-Repeat c.in_default-line.not-Again)

pub returns-clause-settled : goal.returns-clause-settled
returns-clause-settled c = subst (λ o. is_call_or_none o ≡ true) c.line_at.ensures (none-line c.line_at.result c.in_default.not-Some)
