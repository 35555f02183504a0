use Rattle.std.proofs.Common.{◌≡◌, true, sym, ◌∙◌, arith}
use Rattle.std.proofs.lemmas.Str.Pattern.{split_once_first}
use Rattle.fixed_units.specs.Numbers.{is_digits}
use Rattle.fixed_units.proofs.Parts.{whole_number, cut_number, size_reading-whole, size_reading-parts, size_reading-not_number}
use Rattle.fixed_units.proofs.reading.read_size.Goals as goal

-- no point stands in the number
pub returns-in_default-clause-reading : goal.returns-in_default-clause-reading
returns-in_default-clause-reading c =
    let cut = split_once_first 46 c.args.number.now c.split_once.result c.split_once.ensures.cases (omega arith) in
    let none = rw c.in_default.is at cut in
    c.read_digits.ensures.reading ∙ sym (size_reading-whole c.args.number.now (whole_number c.args.number.now none))

-- what stands after the point isn't digits
pub returns-then-not-is_digits-clause-reading : goal.returns-then-not-is_digits-clause-reading
returns-then-not-is_digits-clause-reading c =
    let cut = split_once_first 46 c.args.number.now c.split_once.result c.split_once.ensures.cases (omega arith) in
    let (within, whole, fraction) = rw c.in-Some.is at cut in
    sym (size_reading-not_number c.args.number.now _ _ (cut_number c.args.number.now _ _ within whole fraction)
    (sym c.is_digits.ensures ∙ c.if-not-is_digits.true))

-- digits stand after the point
pub returns-clause-reading : goal.returns-clause-reading
returns-clause-reading c =
    let cut = split_once_first 46 c.args.number.now c.split_once.result c.split_once.ensures.cases (omega arith) in
    let (within, whole, fraction) = rw c.in-Some.is at cut in
    let digits : is_digits c.in-Some.fraction.now ≡ true = sym c.is_digits.ensures ∙ c.if-not-is_digits.false in
    c.read_digits-2.ensures.reading
    ∙ sym (size_reading-parts c.args.number.now _ _ (cut_number c.args.number.now _ _ within whole fraction) digits)
