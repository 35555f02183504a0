-- The quotient is the count, and has 32 bits.
use Rattle.std.specs.Prelude.{◌≡◌, ◌-ℤ◌}
use Rattle.std.proofs.Common.{arith, w64, FitsSigned, to_z-of_z}
use Rattle.std.proofs.lemmas.Int.{ints}
use Rattle.plc_types.specs.Counts.{count_of}
use Rattle.plc_types.proofs.count.target_count.Goals as goal

counted : (c : goal.After-div_euclid) → c.div_euclid.result ≡ count_of c.args.setpoint c.args.offset c.args.inc
unfolding count_of
counted c =
    let p : FitsSigned w64 c.args.setpoint = c.ranges.setpoint in
    let o : FitsSigned w64 c.args.offset = c.ranges.offset in
    let i : FitsSigned w64 c.args.inc = c.ranges.inc in
    let d : FitsSigned w64 (c.args.setpoint -ℤ c.args.offset) = omega (arith, ints) in
    simp to_z-of_z at c.div_euclid.ensures

pub overflow_cast-result : goal.overflow_cast-result
overflow_cast-result c = let e = counted c in let least = c.requires.count.least in let most = c.requires.count.most in omega (arith, ints)

pub returns : goal.returns
returns c = let e = counted c in let least = c.requires.count.least in let most = c.requires.count.most in omega (arith, ints)
