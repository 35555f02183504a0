use Rattle.std.proofs.Common.{◌<◌, sym, ◌∙◌, arith}
use Rattle.fixed_units.proofs.Written.{places-positive, shorter-fits, without_end_zeros-shorter, without_end_zeros-all}
use Rattle.fixed_units.proofs.writing.significant_places.Goals as goal

-- the zero at the end is left out, and the digits before it fit one place less
pub loop-number-preserved : goal.loop-number-preserved
loop-number-preserved c =
    let kept = c.loop-number.invariant in
    let some : 0 < c.loop-number.places = places-positive _ _ kept.above_zero kept.fits in
    record {
      above_zero = omega arith;
      fits = shorter-fits _ _ some kept.fits;
      places = omega arith;
      significant = without_end_zeros-shorter c.loop-number.number c.loop-number.places some c.loop-number-test.true ∙ kept.significant;
    }

-- no zero stands at the end
pub returns-clause-digits : goal.returns-clause-digits
returns-clause-digits c =
    let kept = c.loop-number.invariant in
    let some : 0 < c.loop-number.places = places-positive _ _ kept.above_zero kept.fits in
    sym (without_end_zeros-all c.loop-number.number c.loop-number.places some c.loop-number-test.false) ∙ kept.significant
