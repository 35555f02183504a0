-- A turn after another, or the one that ends the run.
use Rattle.std.specs.Prelude.{slice_set}
use Rattle.std.proofs.Common.{arith}
use Rattle.std.proofs.lemmas.Result.{err_from_is_err_and}
use Rattle.st_rounds.proofs.TurnLaws.{all-turned, one-turned, playing-at, turn-stops, within}
use Rattle.st_rounds.proofs.turns.make_turns.Goals as goal

pub make_turn-requires-clause-task : goal.make_turn-requires-clause-task
make_turn-requires-clause-task c =
    playing-at c.args.cell.now.code c.loop-number.players c.loop-number.number
    c.index-players-number.result
    (within _ _ _ _ c.loop-number-test.true c.loop-number.invariant.each c.requires.each)
    c.loop-number.invariant.playing

pub returns-in_err-make_turn-clause-made : goal.returns-in_err-make_turn-clause-made
returns-in_err-make_turn-clause-made c = λ drives.
    let p = err_from_is_err_and c.from_residual.result c.from_residual.ensures.1 in
    rw (p.1, p.2) (turn-stops c.args.cell.now c.loop-number.number c.loop-number.kernel.kernel
    c.make_turn.new.kernel.kernel c.args.kernel.now.kernel c.loop-number.players c.args.players.now
    (slice_set c.loop-number.players c.loop-number.number c.make_turn.new.player)
    c.index-players-number.result c.make_turn.new.player c.in_err-make_turn.field-0.0
    (within _ _ _ _ c.loop-number-test.true c.loop-number.invariant.each c.requires.each)
    c.loop-number.invariant c.in_err-make_turn.ensures.made drives)

pub loop-number-preserved : goal.loop-number-preserved
loop-number-preserved c =
    one-turned c.args.cell.now c.loop-number.number c.loop-number.kernel.kernel c.make_turn.new.kernel.kernel
    c.args.kernel.now.kernel c.loop-number.players c.args.players.now c.index-players-number.result
    c.make_turn.new.player
    (within _ _ _ _ c.loop-number-test.true c.loop-number.invariant.each c.requires.each)
    c.loop-number.invariant
    c.make_turn.ensures.config c.make_turn.ensures.runs c.in_ok-make_turn.ensures.task
    c.in_ok-make_turn.ensures.made

pub returns-clause-made : goal.returns-clause-made
returns-clause-made c =
    let done = c.loop-number-test.false in
    all-turned c.args.cell.now c.loop-number.number c.loop-number.kernel.kernel c.args.kernel.now.kernel
    c.loop-number.players c.args.players.now (omega (arith, done)) c.loop-number.invariant
