-- The targets of a blend downward lie ahead, and its step is that of the blend, turned.
use Rattle.std.proofs.Common.{arith}
use Rattle.std.proofs.lemmas.Int.{ints}
use Rattle.axis_core.specs.blocks.Moves.{target_of}
use Rattle.axis_core.proofs.Blends.{first_down, wanted_down}
use Rattle.axis_core.proofs.blocks.blends.step_down.Goals as goal

pub blend_step-requires-clause-first_target : goal.blend_step-requires-clause-first_target
blend_step-requires-clause-first_target c =
    let ahead = first_down (target_of c.args.wanted.now) c.args.second.now.target c.args.axis.now.previous c.args.axis.now.setpoint
    c.requires.second.applies c.requires.down in
    omega (arith, ints, ahead.first, c.target_of.ensures)

pub blend_step-requires-clause-second_target : goal.blend_step-requires-clause-second_target
blend_step-requires-clause-second_target c =
    let ahead = first_down (target_of c.args.wanted.now) c.args.second.now.target c.args.axis.now.previous c.args.axis.now.setpoint
    c.requires.second.applies c.requires.down in
    omega (arith, ints, ahead.second, c.target_of.ensures)

pub blend_step-requires-clause-forward : goal.blend_step-requires-clause-forward
blend_step-requires-clause-forward c =
    let ahead = first_down (target_of c.args.wanted.now) c.args.second.now.target c.args.axis.now.previous c.args.axis.now.setpoint
    c.requires.second.applies c.requires.down in
    omega (arith, ints, ahead.old_step)

pub returns-clause-value : goal.returns-clause-value
returns-clause-value c =
    wanted_down (target_of c.args.wanted.now) c.args.second.now.target c.args.axis.now.previous c.args.axis.now.setpoint _ _ _ _ _
    c.args.wanted.now.rates c.args.second.now.rates c.args.second.now.velocity _ c.requires.down c.blend_step.ensures.value
    (omega (arith, ints, c.target_of.ensures)) (omega (arith, ints)) (omega (arith, ints)) (omega (arith, ints)) (omega (arith, ints))
