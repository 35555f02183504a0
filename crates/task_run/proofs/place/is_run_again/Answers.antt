-- The lines of a repeat are run as often as it says.
use Rattle.std.proofs.Common.{◌≡◌, Bool, true, false, refl, arith}
use Rattle.std.specs.Prelude.{not}
use Rattle.std.proofs.lemmas.Bool.{eqb-true, ltb-true, ltb-false}
use Rattle.task_run.proofs.Places.{first-settled, left-counted, left-empty, run-again}
use Rattle.task_run.proofs.place.is_run_again.Goals as goal

unnot : (b : Bool) → not b ≡ false → b ≡ true
unnot true h = refl
unnot false h = absurd (cc)

pub returns-then-not-is_empty-clause-settled : goal.returns-then-not-is_empty-clause-settled
returns-then-not-is_empty-clause-settled c = λ yes.
    let line = c.from.ensures in
    let start = c.from-2.ensures in
    let other = c.if-not-is_empty.true in
    first-settled c.args.lines.now c.args.line c.args.pass (λ same. omega (arith, same, line, start, other))

pub returns-then-not-is_empty-clause-again : goal.returns-then-not-is_empty-clause-again
returns-then-not-is_empty-clause-again c = λ yes.
    let more = ltb-true _ _ yes in
    let made = c.from-then-not-is_empty.ensures in
    let count = c.from-then-not-is_empty-2.ensures in
    run-again c.args.lines.now c.args.line c.args.pass c.count_at-count.result c.requires (omega (arith, more, made, count)) c.count_at-count.ensures

pub returns-then-not-is_empty-clause-left : goal.returns-then-not-is_empty-clause-left
returns-then-not-is_empty-clause-left c = λ no_more.
    let few = ltb-false _ _ no_more in
    let made = c.from-then-not-is_empty.ensures in
    let count = c.from-then-not-is_empty-2.ensures in
    left-counted c.args.lines.now c.args.line c.args.pass c.count_at-count.result c.requires (omega (arith, few, made, count)) c.count_at-count.ensures

pub returns-else-not-is_empty-clause-left : goal.returns-else-not-is_empty-clause-left
returns-else-not-is_empty-clause-left c = λ no_more.
    let first = eqb-true _ _ (unnot _ no_more) in
    let line = c.from.ensures in
    let start = c.from-2.ensures in
    left-empty c.args.lines.now c.args.line c.args.pass c.requires (omega (arith, first, line, start))
