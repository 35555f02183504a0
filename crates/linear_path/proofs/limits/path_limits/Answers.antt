-- The limits of a path that stands, and of one that moves.
use Rattle.std.proofs.Common.{arith, ◌≡◌, ◌≤◌, ◌<◌, sym, ◌∙◌, ℕ, pos, to_z, w64}
use Rattle.std.proofs.lemmas.Int.{ints}
use Rattle.linear_path.specs.Line.{way_of}
use Rattle.linear_path.proofs.RateLaws.{standing_path, moving_path_is, limits_in_range_of}
use Rattle.linear_path.proofs.LineLaws.{way_within}
use Rattle.linear_path.proofs.limits.path_limits.Goals as goal

back : (n : ℕ) → n ≤ 2000000000000000 → to_z w64 n ≡ pos n
back n small = omega (arith, ints)

ways : (c : goal.After-struct_known-3-1) → (axis : ℕ) → axis < c.args.line.now.count →
    way_of c.args.line.now.starts c.args.line.now.targets axis ≤ c.longest_way-length.result
ways c axis within =
    rw c.longest_way-length.ensures.value
    (way_within c.args.line.now.count c.args.line.now.starts c.args.line.now.targets axis within)

pub returns-then-length-eq0-clause-value : goal.returns-then-length-eq0-clause-value
returns-then-length-eq0-clause-value c =
    sym (standing_path c.args.line.now.count c.args.line.now.starts c.args.line.now.targets
    c.args.limits.now (sym c.longest_way-length.ensures.value ∙ c.if-length-eq0.true))

pub returns-clause-value : goal.returns-clause-value
returns-clause-value c =
    moving_path_is c.args.line.now.count c.args.line.now.starts c.args.line.now.targets
    c.args.limits.now c.longest_way-length.result
    c.path_rates-rates.result.velocity c.path_rates-rates.result.acceleration
    c.path_rates-rates.result.deceleration _ _ _ _
    c.longest_way-length.ensures.value (omega arith) c.path_rates-rates.ensures
    (back _ (omega arith)) (back _ (omega (arith, c.path_rates-rates.ensures.velocity_is.within)))
    (back _ (omega (arith, c.path_rates-rates.ensures.acceleration_is.within)))
    (back _ (omega (arith, c.path_rates-rates.ensures.deceleration_is.within)))

pub returns-clause-in_range : goal.returns-clause-in_range
returns-clause-in_range c =
    limits_in_range_of c.args.line.now.count c.args.line.now.starts c.args.line.now.targets
    c.args.limits.now c.longest_way-length.result
    c.path_rates-rates.result.velocity c.path_rates-rates.result.acceleration
    c.path_rates-rates.result.deceleration _ _ _ _
    (omega arith) c.longest_way-length.ensures.small c.requires (ways c) c.path_rates-rates.ensures
    (back _ (omega arith)) (back _ (omega (arith, c.path_rates-rates.ensures.velocity_is.within)))
    (back _ (omega (arith, c.path_rates-rates.ensures.acceleration_is.within)))
    (back _ (omega (arith, c.path_rates-rates.ensures.deceleration_is.within)))
