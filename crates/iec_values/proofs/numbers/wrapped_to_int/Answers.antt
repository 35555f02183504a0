-- What is left in 16 bits.
use Rattle.std.proofs.Common.{◌≡◌, ◌∙◌, sym, subst, ap, pos, arith, to_z, of_z, to_z-of_z, FitsSigned, unsigned_abs}
use Rattle.std.specs.Int.{cast_signed, int_rem_euclid, int_wrap, w16, w64, w128}
use Rattle.std.proofs.lemmas.Int.{ints}
use Rattle.iec_tree.specs.declared.elementary.Elementary.TheVariants.{Int}
use Rattle.iec_values.specs.Types.{Holds}
use Rattle.iec_values.proofs.Wrapping.{holds-int}
use Rattle.iec_values.proofs.numbers.wrapped_to_int.Goals as goal

-- the value that is returned
value : (c : goal.After-from) → to_z w64 (of_z w64 c.from.result) ≡ int_wrap w16 c.args.number
unfolding int_wrap
value c =
    let number : FitsSigned w128 c.args.number = c.ranges.number in
    let left : c.rem_euclid-low.result ≡ int_rem_euclid c.args.number (pos 65536) = simp to_z-of_z at c.rem_euclid-low.ensures.value in
    let low : to_z w128 (of_z w128 c.rem_euclid-low.result) ≡ c.rem_euclid-low.result = omega (arith, ints) in
    let back : to_z w64 (of_z w64 c.from.result) ≡ c.cast_signed.result = omega (arith, ints) in
    back ∙ (c.cast_signed.ensures ∙ ap (λ z. cast_signed w16 (unsigned_abs z)) (low ∙ left))

pub returns-clause-value : goal.returns-clause-value
returns-clause-value c = value c

pub returns-clause-holds : goal.returns-clause-holds
returns-clause-holds c = subst (λ z. Holds Int z) (sym (value c)) (holds-int c.args.number)
