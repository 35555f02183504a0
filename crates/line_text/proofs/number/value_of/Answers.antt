-- Byte by byte.
use Rattle.std.proofs.Common.{◌≡◌, ◌≤◌, ◌^◌, true, get_or, sym, ◌∙◌, arith}
use Rattle.std.proofs.Math.Nat.{pow-le-pow_right}
use Rattle.std.specs.Char.{is_ascii_digit}
use Rattle.line_text.proofs.Numerals.{digit-range, read-more}
use Rattle.line_text.proofs.number.value_of.Goals as goal

pub overflow_mul-number : goal.overflow_mul-number
overflow_mul-number c =
    let few : c.loop-byte.byte-index ≤ 18 = omega (arith, c.requires, c.loop-byte-test.true) in
    let top : 10 ^ c.loop-byte.byte-index ≤ 10 ^ 18 = pow-le-pow_right {n = 10} (omega arith) few in
    omega (arith, c.loop-byte.invariant.small, top)

pub overflow_add-number : goal.overflow_add-number
overflow_add-number c =
    let few : c.loop-byte.byte-index ≤ 18 = omega (arith, c.requires, c.loop-byte-test.true) in
    let top : 10 ^ c.loop-byte.byte-index ≤ 10 ^ 18 = pow-le-pow_right {n = 10} (omega arith) few in
    let digit : is_ascii_digit (get_or c.args.bytes.now c.loop-byte.byte-index 0) ≡ true = sym c.is_ascii_digit.ensures.value ∙ c.if-not-is_ascii_digit.false in
    let range = digit-range (get_or c.args.bytes.now c.loop-byte.byte-index 0) digit in
    omega (arith, c.loop-byte.invariant.small, top, range, c.from.ensures)

pub loop-byte-preserved : goal.loop-byte-preserved
loop-byte-preserved c =
    let digit : is_ascii_digit (get_or c.args.bytes.now c.loop-byte.byte-index 0) ≡ true = sym c.is_ascii_digit.ensures.value ∙ c.if-not-is_ascii_digit.false in
    rw c.from.ensures (read-more c.args.bytes.now c.loop-byte.byte-index c.loop-byte.number c.loop-byte.invariant c.loop-byte-test.true digit)
