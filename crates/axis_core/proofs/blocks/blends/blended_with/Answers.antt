-- A blend that applies, and its numbers.
use Rattle.axis_core.specs.blocks.Moves.{target_of}
use Rattle.std.specs.Prelude.{◌≡◌, Bool, true, ℤ}
use Rattle.std.proofs.Common.{arith, sym, ◌∙◌}
use Rattle.std.proofs.lemmas.Int.{ints}
use Rattle.blend_plan.specs.Blends.{blend_applies}
use Rattle.axis_core.proofs.blocks.blends.blended_with.Goals as goal

-- the test of it holds, as it was read
fits-of : (t u before now t' u' : ℤ) (b : Bool) → b ≡ blend_applies t' u' before now → b ≡ true → t' ≡ t → u' ≡ u →
    blend_applies t u before now ≡ true
fits-of t u before now t' u' b is holds p q = rw (← p, ← q) (sym is ∙ holds)

pub returns-then-applies-clause-kept : goal.returns-then-applies-clause-kept
returns-then-applies-clause-kept c =
    let given = c.in-Some-second_move.ensures in
    let fits : blend_applies (target_of c.args.wanted.now) c.in-Some-second_move.second.target c.args.axis.now.previous c.args.axis.now.setpoint ≡ true =
    fits-of (target_of c.args.wanted.now) c.in-Some-second_move.second.target c.args.axis.now.previous c.args.axis.now.setpoint _ _ _
    c.applies.ensures c.if-applies.true (omega (arith, ints, c.target_of.ensures)) (omega (arith, ints)) in
    let applies = (c.blends_apply_by_test.ensures (target_of c.args.wanted.now) c.in-Some-second_move.second.target
    c.args.axis.now.previous c.args.axis.now.setpoint).0 fits in
    record { near = given.near; rates = given.rates; least = given.least; most = grind (arith, ints, given.most); applies = applies }
