use Rattle.std.proofs.Common.{◌≡◌, ◌≤◌, ◌^◌, ◌-ℤ◌, true, false, Ok, Err, pos, neg_ℤ, to_z, of_z, w64, ap, sym, ◌∙◌, arith, rules}
use Rattle.std.proofs.lemmas.Int.{ints}
use Rattle.std.proofs.lemmas.Str.Pattern.{strip_prefix_char}
use Rattle.fixed_units.specs.Numbers.{reading_of, reading_with_sign}
use Rattle.fixed_units.proofs.Parts.{reading_of-minus, reading_of-plain}
use Rattle.fixed_units.proofs.reading.read_units.Goals as goal

pub returns-in_err-read_size-in-Some-clause-reading :
    goal.returns-in_err-read_size-in-Some-clause-reading
returns-in_err-read_size-in-Some-clause-reading c =
    let minus = rw c.in-Some.is at (strip_prefix_char 45 c.args.text.now c.strip_prefix.result c.strip_prefix.ensures.cases (omega arith)) in
    let fault : reading_of c.args.text.now ≡ Err c.in_err-read_size-in-Some.field-0.0 =
    reading_of-minus c.args.text.now _ minus ∙ ap (reading_with_sign true) (sym c.in_err-read_size-in-Some.ensures.reading) in
    rw fault (search rules)

pub returns-in_err-read_size-in-None-clause-reading :
    goal.returns-in_err-read_size-in-None-clause-reading
returns-in_err-read_size-in-None-clause-reading c =
    let plain = rw c.in-None.is at (strip_prefix_char 45 c.args.text.now c.strip_prefix.result c.strip_prefix.ensures.cases (omega arith)) in
    let fault : reading_of c.args.text.now ≡ Err c.in_err-read_size-in-None.field-0.0 =
    reading_of-plain c.args.text.now plain ∙ ap (reading_with_sign false) (sym c.in_err-read_size-in-None.ensures.reading) in
    rw fault (search rules)

pub returns-in_ok-read_size-in-Some-clause-reading :
    goal.returns-in_ok-read_size-in-Some-clause-reading
returns-in_ok-read_size-in-Some-clause-reading c =
    let minus = rw c.in-Some.is at (strip_prefix_char 45 c.args.text.now c.strip_prefix.result c.strip_prefix.ensures.cases (omega arith)) in
    let size = c.in_ok-read_size-in-Some.field-0 in
    let small : size ≤ 10 ^ 18 = c.in_ok-read_size-in-Some.ensures.bound in
    let value : to_z w64 (of_z w64 (pos 0 -ℤ to_z w64 size)) ≡ neg_ℤ (pos size) = omega (arith, ints) in
    ap Ok value ∙ ap (reading_with_sign true) c.in_ok-read_size-in-Some.ensures.reading
    ∙ sym (reading_of-minus c.args.text.now _ minus)

pub returns-in_ok-read_size-in-None-clause-reading :
    goal.returns-in_ok-read_size-in-None-clause-reading
returns-in_ok-read_size-in-None-clause-reading c =
    let plain = rw c.in-None.is at (strip_prefix_char 45 c.args.text.now c.strip_prefix.result c.strip_prefix.ensures.cases (omega arith)) in
    let size = c.in_ok-read_size-in-None.field-0 in
    let small : size ≤ 10 ^ 18 = c.in_ok-read_size-in-None.ensures.bound in
    let value : to_z w64 size ≡ pos size = omega (arith, ints) in
    ap Ok value ∙ ap (reading_with_sign false) c.in_ok-read_size-in-None.ensures.reading
    ∙ sym (reading_of-plain c.args.text.now plain)
