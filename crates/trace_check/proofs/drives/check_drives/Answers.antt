-- One drive more.
use Rattle.std.specs.Prelude.{◌≡◌, refl, length}
use Rattle.std.proofs.Common.{ap, arith}
use Rattle.trace_text.specs.Trace.{drive_records}
use Rattle.trace_check.proofs.DriveLaws.{stops-next, took-all, took-next}
use Rattle.trace_check.proofs.drives.check_drives.Goals as goal

pub loop-i-preserved : goal.loop-i-preserved
loop-i-preserved c = record {
  same = took-next c.args.cycles c.args.trace.now.drives c.drives-drives.result.now c.loop-i.i c.loop-i.invariant.drives c.loop-i-test.true c.if-drives-i.false c.loop-i.invariant.same;
  drives = c.loop-i.invariant.drives;
}

pub returns-then-drives-i-clause-compared : goal.returns-then-drives-i-clause-compared
returns-then-drives-i-clause-compared c =
    stops-next c.args.trace.now.config _ c.args.cycles c.args.trace.now.drives c.drives-drives.result.now c.loop-i.i c.args.place _ _ c.config.ensures c.loop-i.invariant.drives c.loop-i-test.true c.loop-i.invariant.same refl c.wrong_drive.ensures

pub returns-clause-compared : goal.returns-clause-compared
returns-clause-compared c =
    let long : length c.drives-drives.result.now ≡ length c.args.trace.now.drives = ap length c.loop-i.invariant.drives in
    ap (drive_records c.args.trace.now.config) (took-all c.args.cycles c.args.trace.now.drives c.loop-i.i c.loop-i.invariant.same (omega (arith, long, c.loop-i-test.false)))

pub returns-clause-taken : goal.returns-clause-taken
returns-clause-taken c =
    let long : length c.drives-drives.result.now ≡ length c.args.trace.now.drives = ap length c.loop-i.invariant.drives in
    took-all c.args.cycles c.args.trace.now.drives c.loop-i.i c.loop-i.invariant.same (omega (arith, long, c.loop-i-test.false))
