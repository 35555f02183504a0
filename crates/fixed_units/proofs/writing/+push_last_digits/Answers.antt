use Rattle.std.proofs.Common.{◌<◌, ◌++◌, ap, sym, ◌∙◌, append-nil, length-append, arith}
use Rattle.fixed_units.proofs.Written.{length-last_digits, last_digits-step, last_digits-none, push-behind}
use Rattle.fixed_units.proofs.writing.+push_last_digits.Goals as goal

pub push-requires : goal.push-requires
push-requires t c = rw (c.push_last_digits.ensures, length-append) (omega (arith, length-last_digits))

-- no digits are nothing
pub returns-then-places-eq0 : goal.returns-then-places-eq0
returns-then-places-eq0 t c =
    sym (append-nil c.args.into.now)
    ∙ ap (λ l. c.args.into.now ++ l) (sym (last_digits-none c.args.places c.args.number c.if-places-eq0.true))

-- the last digit stands after the others
pub returns : goal.returns
returns t c =
    let some : 0 < c.args.places = omega arith in
    push-behind _ _ _ _ _ _ c.push.ensures c.push_last_digits.ensures (last_digits-step c.args.places c.args.number some)
