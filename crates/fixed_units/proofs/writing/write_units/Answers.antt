use Rattle.std.proofs.Common.{◌≡◌, ◌<◌, ◌/◌, ◌%◌, ◌^◌, ◌++◌, decimal, unsigned_abs, int_lt, pos, FitsSigned, w64, to_z-of_z, refl, ap, sym, ◌∙◌, length-append, arith}
use Rattle.std.proofs.lemmas.Fmt.{length-decimal-le}
use Rattle.fixed_units.specs.Spelling.{sign_text, fraction_text, units_text}
use Rattle.fixed_units.proofs.Written.{length-sign_text, units_text-parts}
use Rattle.fixed_units.proofs.RoundTrip.{units_text-spells}
use Rattle.fixed_units.proofs.Shortest.{units_text-shortest}
use Rattle.fixed_units.proofs.writing.write_units.Goals as goal

pub push_whole-requires : goal.push_whole-requires
push_whole-requires c =
    let digits = length-decimal-le 11 (c.unsigned_abs-size.result / 1000000000) (omega arith) (omega arith) (omega arith) in
    rw c.begin_with_sign.ensures (omega (arith, length-sign_text, digits))

pub push_fraction-requires-clause-room : goal.push_fraction-requires-clause-room
push_fraction-requires-clause-room c =
    let digits = length-decimal-le 11 (c.unsigned_abs-size.result / 1000000000) (omega arith) (omega arith) (omega arith) in
    rw (c.push_whole.ensures, length-append, c.begin_with_sign.ensures) (omega (arith, length-sign_text, digits))

-- sign, whole number and fraction stand one after the other
pub returns : goal.returns
returns c =
    let range : FitsSigned w64 c.args.value = c.ranges.value in
    let size : c.unsigned_abs-size.result ≡ unsigned_abs c.args.value = simp to_z-of_z at c.unsigned_abs-size.ensures.value in
    let sign : c.begin_with_sign.new.into ≡ sign_text (int_lt c.args.value (pos 0)) = simp to_z-of_z at c.begin_with_sign.ensures in
    let text : c.push_fraction.new.into ≡ units_text c.args.value =
    c.push_fraction.ensures ∙ ap (λ l. l ++ fraction_text (c.unsigned_abs-size.result % 1000000000))
    (c.push_whole.ensures ∙ ap (λ l. l ++ decimal (c.unsigned_abs-size.result / 1000000000)) sign)
    ∙ sym (units_text-parts c.args.value _ _ refl size) in
    let fits : unsigned_abs c.args.value < 2 ^ 64 = rw (← size) (omega arith) in
    record {
      text = text;
      spells = rw text (units_text-spells c.args.value fits);
      shortest = rw text (λ other. units_text-shortest c.args.value other fits);
    }
