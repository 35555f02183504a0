use Rattle.std.proofs.Common.{◌++◌, ap, sym, ◌∙◌, length-append, arith}
use Rattle.std.proofs.lemmas.Fmt.{decimal_digit, decimal_step}
use Rattle.fixed_units.proofs.Written.{length-decimal_digit, length-decimal_step, push-behind}
use Rattle.fixed_units.proofs.writing.+push_whole.Goals as goal

pub push-requires : goal.push-requires
push-requires t c = omega (arith, length-decimal_digit c.args.number c.if-number-lt10.true)

-- a number of one digit
pub returns-then-number-lt10 : goal.returns-then-number-lt10
returns-then-number-lt10 t c =
    c.push.ensures ∙ ap (λ l. c.args.into.now ++ l) (sym (decimal_digit c.args.number c.if-number-lt10.true))

pub push_whole-requires : goal.push_whole-requires
push_whole-requires t c = (omega arith, omega (arith, length-decimal_step c.args.number c.if-number-lt10.false c.ranges.number.fits))

pub push-requires-2 : goal.push-requires-2
push-requires-2 t c =
    rw (c.push_whole.ensures, length-append) (omega (arith, length-decimal_step c.args.number c.if-number-lt10.false c.ranges.number.fits))

-- the last digit stands after the others
pub returns : goal.returns
returns t c =
    push-behind _ _ _ _ _ _ c.push-2.ensures c.push_whole.ensures (decimal_step c.args.number c.if-number-lt10.false c.ranges.number.fits)
