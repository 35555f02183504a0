-- The records of the machine part.
use Rattle.std.specs.Prelude.{◌≡◌, length}
use Rattle.std.proofs.Common.{ap, arith}
use Rattle.trace_check.proofs.Machines.{machine-long}
use Rattle.trace_check.proofs.replaying.first_place.Goals as goal

pub returns-clause-place : goal.returns-clause-place
returns-clause-place c = λ v k.
    let e = machine-long v k c.args.config.now in
    let a : length c.axes.result.now ≡ length c.args.config.now.axes = ap length c.axes.ensures.axes in
    let b : length c.groups.result.now ≡ length c.args.config.now.groups = ap length c.groups.ensures in
    let d : length c.tables.result.now ≡ length c.args.config.now.tables = ap length c.tables.ensures in
    let f : length c.tasks.result.now ≡ length c.args.config.now.tasks = ap length c.tasks.ensures in
    let g : length c.blocks-2.result.now ≡ length c.args.config.now.blocks = ap length c.blocks-2.ensures in
    omega (arith, e, a, b, d, f, g)
