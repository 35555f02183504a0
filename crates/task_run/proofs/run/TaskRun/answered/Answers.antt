-- A reply leads the run on as it leads the task.
use Rattle.std.proofs.Common.{◌≡◌, List, [], sym, ◌∙◌, ap, subst, ◌∷◌, ◌++◌, true}
use Rattle.std.specs.Prelude.{slice_get}
use Rattle.std.proofs.lemmas.Option.{slice_get_within}
use Rattle.plc_program.specs.declared.program.Instruction.{Instruction}
use Rattle.task_run.specs.Runs.{is_settled, lines_of}
use Rattle.task_run.specs.Standing.{Stands}
use Rattle.task_run.proofs.Answering.{reply-ended, reply-passed, reply-rests, run-before, run-ended}
use Rattle.task_run.proofs.run.TaskRun.answered.Goals as goal

pub returns-in_default-clause-run : goal.returns-in_default-clause-run
returns-in_default-clause-run c = λ s r.
    let at = c.line_at.ensures ∙ ap (λ (ls : List Instruction). slice_get ls c.args.self.now.place.line) c.lines-lines.ensures.value in
    reply-ended c.args.program.now c.args.self.now s c.args.outputs.now (run-ended c.args.program.now c.args.self.now s (λ l h. c.in_default.not-Some l (at ∙ h)) r) r

pub moved-self-requires-clause-place : goal.moved-self-requires-clause-place
moved-self-requires-clause-place c =
    let same = c.lines-lines.ensures.value in
    let place = c.args.self.now.place in
    let at = sym (ap (λ (ls : List Instruction). slice_get ls place.line) same) ∙ sym c.line_at.ensures ∙ c.in-Some.is in
    let (s, r) = c.requires in
    let b = run-before c.args.program.now c.args.self.now s c.in-Some.line at r in (
      s.passed,
      c.in-Some.line,
      b.others,
      subst (λ (ls : List Instruction). Stands ls place s.passed (c.in-Some.line ∷ b.others)) (sym same)
          (subst (λ t. Stands (lines_of c.args.program.now c.args.self.now) place s.passed t) b.is r.stands),
    )

pub moved-self-requires-clause-within : goal.moved-self-requires-clause-within
moved-self-requires-clause-within c = slice_get_within c.lines-lines.result.now c.args.self.now.place.line c.in-Some.line (sym c.line_at.ensures ∙ c.in-Some.is)

pub returns-then-is_passed-clause-run : goal.returns-then-is_passed-clause-run
returns-then-is_passed-clause-run c = λ s r.
    let same = c.lines-lines.ensures.value in
    let place = c.args.self.now.place in
    let at = sym (ap (λ (ls : List Instruction). slice_get ls place.line) same) ∙ sym c.line_at.ensures ∙ c.in-Some.is in
    let b = run-before c.args.program.now c.args.self.now s c.in-Some.line at r in
    let stands = subst (λ (ls : List Instruction). Stands ls place s.passed (c.in-Some.line ∷ b.others)) (sym same)
    (subst (λ t. Stands (lines_of c.args.program.now c.args.self.now) place s.passed t) b.is r.stands) in
    reply-passed c.args.program.now c.args.self.now s c.args.outputs.now c.in-Some.line b.others c.moved-self.result b.is (sym c.is_passed.ensures ∙ c.if-is_passed.true) r
    (subst (λ (ls : List Instruction). Stands ls c.moved-self.result (s.passed ++ c.in-Some.line ∷ []) b.others) same (c.moved-self.ensures.moves s.passed b.others c.in-Some.line stands))
    (subst (λ (ls : List Instruction). is_settled ls c.moved-self.result.line ≡ true) same c.moved-self.ensures.settled)

pub returns-else-is_passed-clause-run : goal.returns-else-is_passed-clause-run
returns-else-is_passed-clause-run c = λ s r.
    let at = sym (ap (λ (ls : List Instruction). slice_get ls c.args.self.now.place.line) c.lines-lines.ensures.value) ∙ sym c.line_at.ensures ∙ c.in-Some.is in
    let b = run-before c.args.program.now c.args.self.now s c.in-Some.line at r in
    reply-rests c.args.program.now c.args.self.now s c.args.outputs.now c.in-Some.line b.others b.is (sym c.is_passed.ensures ∙ c.if-is_passed.false) r
