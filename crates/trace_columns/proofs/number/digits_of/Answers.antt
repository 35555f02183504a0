-- Digit by digit after the first eight.
use Rattle.std.proofs.Common.{◌≡◌, ◌≤◌, ◌<◌, ◌^◌, length, subst, arith}
use Rattle.trace_columns.proofs.ShortLaws.{IsRead, all_read, all_small, read_more, room_left}
use Rattle.trace_columns.proofs.number.digits_of.Goals as goal

pub overflow_mul-number : goal.overflow_mul-number
overflow_mul-number c =
    let few : length c.args.text.now ≤ 18 = c.may_be_digits.ensures.few c.if-not-may_be_digits.false in
    let room : c.loop-i.number < 10 ^ 17 = room_left c.args.text.now c.loop-i.i c.loop-i.number c.loop-i.invariant c.loop-i-test.true few in
    omega (arith, room)

pub overflow_add-number : goal.overflow_add-number
overflow_add-number c =
    let few : length c.args.text.now ≤ 18 = c.may_be_digits.ensures.few c.if-not-may_be_digits.false in
    let room : c.loop-i.number < 10 ^ 17 = room_left c.args.text.now c.loop-i.i c.loop-i.number c.loop-i.invariant c.loop-i-test.true few in
    let digit = c.from.ensures in
    let small = c.if-digit-gt9.false in
    omega (arith, room, digit, small)

pub loop-i-preserved : goal.loop-i-preserved
loop-i-preserved c =
    let small = c.if-digit-gt9.false in
    let is = c.digit_of-digit.ensures.none (omega (arith, small)) in
    let digit = c.digit_of-digit.ensures.digit is.0 is.1 in
    rw (c.from.ensures, digit) (read_more c.args.text.now c.loop-i.i c.loop-i.number c.loop-i.invariant c.loop-i-test.true is.0 is.1)

pub returns-clause-spelled : goal.returns-clause-spelled
returns-clause-spelled c =
    let test = c.may_be_digits.ensures in
    let is = c.if-not-may_be_digits.false in
    let past = c.loop-i-test.false in
    let within = c.loop-i.auto.i-end in
    let at : c.loop-i.i ≡ length c.args.text.now = omega (arith, past, within, c.in_ok-from.ensures.within) in
    all_read c.args.text.now c.loop-i.number (subst (λ i. IsRead c.args.text.now i c.loop-i.number) at c.loop-i.invariant) (test.some is) (test.first is) (test.few is)

pub returns-clause-small : goal.returns-clause-small
returns-clause-small c =
    let test = c.may_be_digits.ensures in
    let is = c.if-not-may_be_digits.false in
    let past = c.loop-i-test.false in
    let within = c.loop-i.auto.i-end in
    let at : c.loop-i.i ≡ length c.args.text.now = omega (arith, past, within, c.in_ok-from.ensures.within) in
    all_small c.args.text.now c.loop-i.number (subst (λ i. IsRead c.args.text.now i c.loop-i.number) at c.loop-i.invariant) (test.few is)
