-- The first target of a blend downward lies ahead.
use Rattle.std.proofs.Common.{arith, to_z, of_z, w64, pos, ◌-ℤ◌}
use Rattle.std.proofs.lemmas.Int.{ints}
use Rattle.axis_core.specs.blocks.Moves.{target_of}
use Rattle.axis_core.proofs.Blends.{crossed_down, first_down}
use Rattle.axis_core.proofs.blocks.blends.crosses_down.Goals as goal

pub crosses-requires-clause-first : goal.crosses-requires-clause-first
crosses-requires-clause-first c =
    let ahead = first_down (target_of c.args.wanted.now) c.args.second.now.target c.args.axis.now.previous c.args.axis.now.setpoint
    c.requires.second.applies c.requires.down in
    omega (arith, ints, ahead.first, c.target_of.ensures)

pub returns : goal.returns
returns c =
    crossed_down (target_of c.args.wanted.now) c.args.second.now.target c.args.axis.now.setpoint
    (to_z w64 (of_z w64 c.way-first.result)) (to_z w64 (of_z w64 c.way-last.result)) (to_z w64 (of_z w64 (pos 0 -ℤ to_z w64 (of_z w64 c.args.step)))) c.args.step
    c.args.second.now.rates c.args.second.now.velocity (to_z w64 (of_z w64 c.args.second.now.velocity)) _ c.requires.down c.crosses.ensures.value
    (omega (arith, ints, c.target_of.ensures)) (omega (arith, ints)) (omega (arith, ints)) (omega (arith, ints))
