-- A task more is opened.
use Rattle.std.specs.Prelude.{◌+◌, true}
use Rattle.std.proofs.Common.{arith, refl, subst, sym}
use Rattle.st_rounds.proofs.OpenLaws.{AreOpenedTo, one-opened}
use Rattle.st_rounds.proofs.run.open_players.Goals as goal

pub loop-number-preserved : goal.loop-number-preserved
loop-number-preserved c =
    let here = c.loop-number-test.true in
    let all = c.tasks-number-end.ensures in
    subst (AreOpenedTo c.args.code.now (c.loop-number.number + 1)) (sym c.in-Ok.ensures.items)
    (one-opened c.args.code.now c.loop-number.number c.loop-number.players.items
    (record { task = c.in_ok-task.task; lives = true }) (omega (arith, here, all))
    c.loop-number.invariant refl c.in_ok-task.ensures)
