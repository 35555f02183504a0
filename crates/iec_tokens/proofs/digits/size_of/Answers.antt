-- The number so far stands still where it is too great.
use Rattle.std.proofs.Common.{◌≡◌, ◌+◌, ◌∷◌, drop, get_or, ap, refl, sym, ◌∙◌, arith}
use Rattle.std.specs.Prelude.{min, ◌^◌}
use Rattle.std.proofs.lemmas.Grind.{common_steps}
use Rattle.iec_tokens.specs.Digits.{base_of, value_behind, with_digit}
use Rattle.iec_tokens.proofs.Numbers.{capped}
use Rattle.iec_tokens.proofs.digits.size_of.Goals as goal

pub loop-digit-preserved : goal.loop-digit-preserved
loop-digit-preserved c =
    let r = c.args.radix in
    let i = c.loop-digit.digit-index in
    let rest = drop (i + 1) c.args.digits.now in
    let m = with_digit (base_of r) c.loop-digit.number (get_or c.args.digits.now i 0) in
    let is : c.with_digit-number.result ≡ min m (10 ^ 16) = c.with_digit-number.ensures.number in
    let split : drop i c.args.digits.now ≡ get_or c.args.digits.now i 0 ∷ rest = grind (arith, common_steps) in
    let step : value_behind (base_of r) c.loop-digit.number (drop i c.args.digits.now) ≡ value_behind (base_of r) m rest = rw split refl in
    record {
      few = c.with_digit-number.ensures.small;
      value = capped r rest c.with_digit-number.result m (omega arith) ∙ ap (λ v. min v (10 ^ 16)) (sym step) ∙ c.loop-digit.invariant.value;
    }
