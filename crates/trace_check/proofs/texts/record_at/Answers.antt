-- One record more is read.
use Rattle.std.specs.Prelude.{◌≡◌}
use Rattle.std.proofs.Common.{arith}
use Rattle.trace_check.proofs.Ahead.{at-place, begins, next, ok-some}
use Rattle.trace_check.proofs.texts.record_at.Goals as goal

pub loop-init : goal.loop-init
loop-init c = begins _ _ c.open_records-rdr.ensures

pub loop-preserved : goal.loop-preserved
loop-preserved c = (next _ c.loop.counter _ _ _ _ c.loop.invariant c.in_ok-next_record.ensures c.if-not-branch.false).ahead

pub returns : goal.returns
returns c =
    let n = next _ c.loop.counter _ _ _ _ c.loop.invariant c.in_ok-next_record-2.ensures c.if-not-branch-2.false in
    let same : c.loop.counter ≡ c.args.place = omega (arith, c.loop-test.false, c.loop.auto.counter-end) in
    ok-some _ _ _ c.of_row.ensures (at-place _ _ _ _ same n.here)
