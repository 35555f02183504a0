use Rattle.std.proofs.Common.{◌≡◌, ◌<◌, ◌^◌, length, ap, arith}
use Rattle.fixed_units.proofs.Digits.{AreDigits, digits_value-next, pow-more, scaled-lt}
use Rattle.fixed_units.proofs.reading.billionths.Goals as goal

-- the next digit counts once, and those before it ten times as much
pub loop-digit-preserved : goal.loop-digit-preserved
loop-digit-preserved c =
    let bytes = c.as_bytes-digit-items.result.now in
    let digits : AreDigits bytes = rw c.as_bytes-digit-items.ensures.value c.requires.digits in
    let next = digits_value-next bytes c.loop-digit.digit-index digits c.loop-digit-test.true in
    record {
      value = omega (arith, next.0);
      bound = omega (arith, pow-more c.loop-digit.digit-index, next.1.1);
    }

-- at the end the number is below the power of ten with as many zeros as there are digits
pub returns-clause-bound : goal.returns-clause-bound
returns-clause-bound c =
    let at_end : c.loop-digit.digit-index ≡ length c.args.fraction.now =
    omega (arith, ap length c.as_bytes-digit-items.ensures.value) in
    let small : c.loop-digit.digits < 10 ^ length c.args.fraction.now = rw (← at_end) c.loop-digit.invariant.bound in
    rw c.pow.ensures (scaled-lt 9 _ _ c.requires.places small)
