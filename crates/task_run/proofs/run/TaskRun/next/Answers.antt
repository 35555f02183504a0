-- The next call is the task's.
use Rattle.std.proofs.Common.{◌≡◌, Some, None, List, sym, ◌∙◌, ap, subst}
use Rattle.std.specs.Prelude.{slice_get}
use Rattle.plc_program.specs.declared.program.Instruction.{Instruction}
use Rattle.task_run.specs.Standing.{Stands}
use Rattle.task_run.specs.Tasks.{call_by}
use Rattle.task_run.specs.Runs.{lines_of}
use Rattle.plc_program.specs.declared.program.Instruction.TheVariants as lines
use Rattle.task_run.proofs.Answering.{next-call, next-end, next-wait, run-ended, wait-goes-on, wait-line}
use Rattle.task_run.proofs.Called.{line-contained}
use Rattle.task_run.proofs.run.TaskRun.next.Goals as goal

pub returns-in-Some-Call-clause-next : goal.returns-in-Some-Call-clause-next
returns-in-Some-Call-clause-next c = λ s r.
    let at = sym (ap (λ (ls : List Instruction). slice_get ls c.args.self.now.place.line) c.lines-lines.ensures.value) ∙ sym c.line_at.ensures ∙ c.in-Some-Call.is ∙ ap (λ l. Some l) c.in-Some-Call.field-0-is in
    next-call c.args.program.now c.args.self.now s c.in-Some-Call.instance c.in-Some-Call.inputs c.if-self.false at r

pub returns-in-Some-Wait-clause-next : goal.returns-in-Some-Wait-clause-next
returns-in-Some-Wait-clause-next c = λ s r.
    let same = c.lines-lines.ensures.value in
    let at = sym (ap (λ (ls : List Instruction). slice_get ls c.args.self.now.place.line) same) ∙ sym c.line_at.ensures ∙ c.in-Some-Wait.is ∙ ap (λ l. Some l) c.in-Some-Wait.field-0-is in
    let stands = subst (λ (ls : List Instruction). Stands ls c.args.self.now.place s.passed s.to_come) (sym same) r.stands in
    next-wait c.args.program.now c.args.self.now s c.in-Some-Wait.instance c.in-Some-Wait.field-0-1 c.called_again.result c.if-self.false at r
    (c.called_again.ensures ∙ ap (λ o. call_by c.in-Some-Wait.instance o) (c.last_call.ensures s.passed s.to_come stands))

pub returns-in-None-clause-next : goal.returns-in-None-clause-next
returns-in-None-clause-next c = λ s r.
    let at = sym (ap (λ (ls : List Instruction). slice_get ls c.args.self.now.place.line) c.lines-lines.ensures.value) ∙ sym c.line_at.ensures ∙ c.in-None.is in
    next-end c.args.program.now c.args.self.now s c.if-self.false (λ l h. let e : None ≡ Some l = sym at ∙ h in absurd (cc)) r

pub returns-in-Some-Call-clause-line : goal.returns-in-Some-Call-clause-line
returns-in-Some-Call-clause-line c = λ k i is.
    let at = sym (ap (λ (ls : List Instruction). slice_get ls c.args.self.now.place.line) c.lines-lines.ensures.value) ∙ sym c.line_at.ensures ∙ c.in-Some-Call.is ∙ ap (λ l. Some l) c.in-Some-Call.field-0-is in
    let same : lines.Call c.in-Some-Call.instance c.in-Some-Call.inputs ≡ lines.Call k i = cc in
    line-contained (lines_of c.args.program.now c.args.self.now) c.args.self.now.place.line (lines.Call k i) (at ∙ ap (λ l. Some l) same)

pub returns-in-Some-Wait-clause-line : goal.returns-in-Some-Wait-clause-line
returns-in-Some-Wait-clause-line c = λ k i is.
    let (s, r) = c.requires in
    let stands = subst (λ (ls : List Instruction). Stands ls c.args.self.now.place s.passed s.to_come) (sym c.lines-lines.ensures.value) r.stands in
    wait-line c.args.program.now c.args.self.now s c.in-Some-Wait.instance c.called_again.result k i c.lines-lines.ensures.program r
    (c.called_again.ensures ∙ ap (λ o. call_by c.in-Some-Wait.instance o) (c.last_call.ensures s.passed s.to_come stands)) is

pub returns-in-Some-Wait-clause-ended : goal.returns-in-Some-Wait-clause-ended
returns-in-Some-Wait-clause-ended c = λ is s r.
    let same = c.lines-lines.ensures.value in
    let at = sym (ap (λ (ls : List Instruction). slice_get ls c.args.self.now.place.line) same) ∙ sym c.line_at.ensures ∙ c.in-Some-Wait.is ∙ ap (λ l. Some l) c.in-Some-Wait.field-0-is in
    let stands = subst (λ (ls : List Instruction). Stands ls c.args.self.now.place s.passed s.to_come) (sym same) r.stands in
    wait-goes-on c.args.program.now c.args.self.now s c.in-Some-Wait.instance c.in-Some-Wait.field-0-1 c.called_again.result c.lines-lines.ensures.program at r
    (c.called_again.ensures ∙ ap (λ o. call_by c.in-Some-Wait.instance o) (c.last_call.ensures s.passed s.to_come stands)) is

pub returns-in-None-clause-ended : goal.returns-in-None-clause-ended
returns-in-None-clause-ended c = λ is s r.
    let at = sym (ap (λ (ls : List Instruction). slice_get ls c.args.self.now.place.line) c.lines-lines.ensures.value) ∙ sym c.line_at.ensures ∙ c.in-None.is in
    run-ended c.args.program.now c.args.self.now s (λ l h. let e : None ≡ Some l = sym at ∙ h in absurd (cc)) r
