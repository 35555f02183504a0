-- In a repeat it is one of this pass, of the pass before, or of the lines before the repeat.
use Rattle.std.proofs.Common.{◌≤◌, ◌∙◌, ap, arith}
use Rattle.std.specs.Option.{option_or}
use Rattle.task_run.proofs.LastCalls.{last-first, last-later, or-later, slice-rest, told}
use Rattle.task_run.specs.Runs.{until_again}
use Rattle.task_run.specs.Tasks.{last_call}
use Rattle.task_run.proofs.last.last_inside.Goals as goal

pub returns-then-pass-eq0 : goal.returns-then-pass-eq0
returns-then-pass-eq0 c = λ p t s. c.last_in.ensures ∙ last-first c.args.block c.args.lines.now c.args.line c.args.pass p t c.requires.task c.if-pass-eq0.true s

pub returns : goal.returns
returns c = λ p t s.
    let other = c.if-pass-eq0.false in
    let some : 1 ≤ c.args.pass.made = omega (arith, other) in
    let this = c.last_in-in_this_pass in
    let body = c.last_in_body-in_the_pass_before in
    c.or-2.ensures ∙ ap (λ o. option_or this.result o) c.or.ensures ∙ or-later this.result body.result c.last_in-before.result
    ∙ told (this.ensures ∙ ap (λ ls. last_call c.args.block ls) (slice-rest _ c.args.pass.start)) (body.ensures ∙ ap (λ ls. last_call c.args.block (until_again ls)) (slice-rest _ c.args.line)) c.last_in-before.ensures ∙ last-later c.args.block c.args.lines.now c.args.line c.args.pass p t c.requires.task some s
