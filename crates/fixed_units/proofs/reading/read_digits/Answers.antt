use Rattle.std.proofs.Common.{◌≡◌, ap, sym, ◌∙◌, Ok, true}
use Rattle.fixed_units.specs.Numbers.{is_digits}
use Rattle.fixed_units.proofs.Parts.{digits_reading-not_number, digits_reading-too_fine, digits_reading-too_large, digits_reading-ok, units_parsed, units_beyond, billionths_of-large, billionths_of-parts}
use Rattle.fixed_units.proofs.reading.read_digits.Goals as goal

pub returns-then-not-is_digits-clause-reading : goal.returns-then-not-is_digits-clause-reading
returns-then-not-is_digits-clause-reading c = sym (digits_reading-not_number _ _ (sym c.is_digits.ensures ∙ c.if-not-is_digits.true))

pub returns-then-fraction-gt-PLACES-clause-reading :
    goal.returns-then-fraction-gt-PLACES-clause-reading
returns-then-fraction-gt-PLACES-clause-reading c =
    sym (digits_reading-too_fine _ _ (sym c.is_digits.ensures ∙ c.if-not-is_digits.false) c.if-fraction-gt-PLACES.true)

-- the whole number fits no 64 bits
pub returns-in_default-clause-reading : goal.returns-in_default-clause-reading
returns-in_default-clause-reading c =
    let digits : is_digits c.args.whole.now ≡ true = sym c.is_digits.ensures ∙ c.if-not-is_digits.false in
    let beyond = units_beyond c.args.whole.now _ _ digits c.parse.ensures.value.0 c.in_default.is in
    sym (digits_reading-too_large _ _ digits c.if-fraction-gt-PLACES.false (billionths_of-large _ _ beyond))

-- the size that was computed is that of the digits, and it is too large
pub returns-then-size-gt-LIMIT-clause-reading : goal.returns-then-size-gt-LIMIT-clause-reading
returns-then-size-gt-LIMIT-clause-reading c =
    let digits : is_digits c.args.whole.now ≡ true = sym c.is_digits.ensures ∙ c.if-not-is_digits.false in
    let units = units_parsed c.args.whole.now _ _ digits c.parse.ensures.value.0 c.in-Ok.is in
    let size = billionths_of-parts c.args.whole.now c.args.fraction.now _ _ (c.from.ensures ∙ units) (c.from-2.ensures ∙ c.billionths.ensures.value) in
    sym (digits_reading-too_large c.args.whole.now c.args.fraction.now digits c.if-fraction-gt-PLACES.false (rw (← size) c.if-size-gt-LIMIT.true))

-- the size that was computed is that of the digits
pub returns-clause-reading : goal.returns-clause-reading
returns-clause-reading c =
    let digits : is_digits c.args.whole.now ≡ true = sym c.is_digits.ensures ∙ c.if-not-is_digits.false in
    let units = units_parsed c.args.whole.now _ _ digits c.parse.ensures.value.0 c.in-Ok.is in
    let size = billionths_of-parts c.args.whole.now c.args.fraction.now _ _ (c.from.ensures ∙ units) (c.from-2.ensures ∙ c.billionths.ensures.value) in
    ap Ok size ∙ sym (digits_reading-ok c.args.whole.now c.args.fraction.now digits c.if-fraction-gt-PLACES.false (rw (← size) c.if-size-gt-LIMIT.false))
