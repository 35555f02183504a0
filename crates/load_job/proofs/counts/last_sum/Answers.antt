-- The last cycle is the first that is found from the end.
use Rattle.std.proofs.Common.{◌≡◌, ◌∙◌, ap, arith}
use Rattle.std.proofs.lemmas.Int.{ints}
use Rattle.std.specs.Option.{option_map}
use Rattle.load_job.specs.Lines.{last_rows, setpoint_sum}
use Rattle.load_job.proofs.TallyLaws.{no-rows-left, rows-found, rows-further, sum-of-none}
use Rattle.load_job.proofs.counts.last_sum.Goals as goal

pub loop-behind-preserved : goal.loop-behind-preserved
loop-behind-preserved c =
    rows-further c.args.history.now.entries c.entries-entries.result c.loop-behind.behind _
    c.entries-entries.ensures c.loop-behind-test.true c.loop-behind.invariant c.rows_at.ensures
    (ap (option_map (λ rows. rows.now)) c.in_default.is)

pub returns-in-Some-clause-value : goal.returns-in-Some-clause-value
returns-in-Some-clause-value c =
    let found = rows-found c.args.history.now.entries c.entries-entries.result c.loop-behind.behind _
    c.in-Some.rows.now c.entries-entries.ensures c.loop-behind-test.true c.loop-behind.invariant
    c.rows_at.ensures (ap (option_map (λ rows. rows.now)) c.in-Some.is) in
    let value : c.setpoint_sum.result ≡ setpoint_sum (last_rows c.args.history.now.entries) =
    c.setpoint_sum.ensures.value ∙ ap setpoint_sum found in
    let small = c.setpoint_sum.ensures.small in
    omega (arith, ints, value, small)

pub returns-clause-value : goal.returns-clause-value
returns-clause-value c =
    sum-of-none _ (no-rows-left c.args.history.now.entries c.entries-entries.result c.loop-behind.behind
    c.loop-behind-test.false c.loop-behind.invariant)
