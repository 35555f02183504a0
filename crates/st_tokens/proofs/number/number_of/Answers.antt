-- The number so far stands still where it is too great.
use Rattle.std.proofs.Common.{◌≡◌, ◌+◌, ◌*◌, ◌-◌, ◌∷◌, drop, get_or, drop-cons, ap, refl, sym, ◌∙◌, arith}
use Rattle.std.specs.Prelude.{min}
use Rattle.std.proofs.lemmas.Grind.{common_steps}
use Rattle.st_tokens.specs.Numbers.{value_behind}
use Rattle.st_tokens.proofs.Numbers.{capped_once}
use Rattle.st_tokens.proofs.number.number_of.Goals as goal

pub loop-digit-preserved : goal.loop-digit-preserved
loop-digit-preserved c =
    let i = c.loop-digit.digit-index in
    let rest = drop (i + 1) c.args.digits.now in
    let m = c.loop-digit.number * 10 + (get_or c.args.digits.now i 0 - 48) in
    let is : c.min-number.result ≡ min m 2147483648 = grind (arith, common_steps) in
    let split : drop i c.args.digits.now ≡ get_or c.args.digits.now i 0 ∷ rest = grind (arith, common_steps) in
    let step : value_behind c.loop-digit.number (drop i c.args.digits.now) ≡ value_behind m rest = rw split refl in
    record {
      few = omega arith;
      value = capped_once rest c.min-number.result m is ∙ ap (λ v. min v 2147483648) (sym step) ∙ c.loop-digit.invariant.value;
    }
