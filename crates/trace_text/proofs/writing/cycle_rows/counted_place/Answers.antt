-- The sum fits.
use Rattle.std.specs.Prelude.{◌≡◌, ◌≤◌, ◌*◌, ◌+ℤ◌, ◌*ℤ◌, unsigned_abs}
use Rattle.std.specs.Int.{w128}
use Rattle.std.proofs.Common.{arith, ◌∙◌, to_z, of_z, w32, w64, FitsSigned, to_z-of_z}
use Rattle.std.proofs.lemmas.Int.{ints, unsigned_abs-mul}
use Rattle.std.proofs.lemmas.Nat.{mul-le}
use Rattle.trace_text.proofs.writing.cycle_rows.counted_place.Goals as goal

sized : (c : goal.After-from-3) → unsigned_abs (c.args.count *ℤ c.args.inc) ≤ 2147483648 * 9223372036854775808
sized c =
    let n : FitsSigned w32 c.args.count = c.ranges.count in
    let i : FitsSigned w64 c.args.inc = c.ranges.inc in
    rw (unsigned_abs-mul c.args.count c.args.inc) (mul-le (unsigned_abs c.args.count) (unsigned_abs c.args.inc) 2147483648 9223372036854775808 (omega (arith, ints)) (omega (arith, ints)))

value : (c : goal.After-from-3) → to_z w128 (of_z w128 (to_z w128 (of_z w128 (to_z w128 (of_z w128 c.from.result) *ℤ to_z w128 (of_z w128 c.from-2.result))) +ℤ to_z w128 (of_z w128 c.from-3.result)))
    ≡ (c.args.count *ℤ c.args.inc) +ℤ c.args.offset
value c =
    let n : FitsSigned w32 c.args.count = c.ranges.count in
    let i : FitsSigned w64 c.args.inc = c.ranges.inc in
    let o : FitsSigned w64 c.args.offset = c.ranges.offset in
    let count : c.from.result ≡ c.args.count = c.from.ensures ∙ to_z-of_z n in
    let inc : c.from-2.result ≡ c.args.inc = c.from-2.ensures ∙ to_z-of_z i in
    let offset : c.from-3.result ≡ c.args.offset = c.from-3.ensures ∙ to_z-of_z o in
    let wide : FitsSigned w128 c.args.count = omega (arith, ints) in
    let wide_inc : FitsSigned w128 c.args.inc = omega (arith, ints) in
    let wide_offset : FitsSigned w128 c.args.offset = omega (arith, ints) in
    let size = sized c in
    let product : FitsSigned w128 (c.args.count *ℤ c.args.inc) = omega (arith, ints) in
    let total : FitsSigned w128 ((c.args.count *ℤ c.args.inc) +ℤ c.args.offset) = omega (arith, ints) in
    rw (count, inc, offset) (simp to_z-of_z)

pub returns-clause-value : goal.returns-clause-value
returns-clause-value c = value c

pub returns-clause-small : goal.returns-clause-small
returns-clause-small c =
    let size = sized c in
    let o : FitsSigned w64 c.args.offset = c.ranges.offset in
    rw (value c) (omega (arith, ints))

pub overflow_add-result : goal.overflow_add-result
overflow_add-result c =
    let n : FitsSigned w32 c.args.count = c.ranges.count in
    let i : FitsSigned w64 c.args.inc = c.ranges.inc in
    let o : FitsSigned w64 c.args.offset = c.ranges.offset in
    let count : c.from.result ≡ c.args.count = c.from.ensures ∙ to_z-of_z n in
    let inc : c.from-2.result ≡ c.args.inc = c.from-2.ensures ∙ to_z-of_z i in
    let offset : c.from-3.result ≡ c.args.offset = c.from-3.ensures ∙ to_z-of_z o in
    let wide : FitsSigned w128 c.args.count = omega (arith, ints) in
    let wide_inc : FitsSigned w128 c.args.inc = omega (arith, ints) in
    let wide_offset : FitsSigned w128 c.args.offset = omega (arith, ints) in
    let size = sized c in
    let product : FitsSigned w128 (c.args.count *ℤ c.args.inc) = omega (arith, ints) in
    rw (count, inc, offset, to_z-of_z wide, to_z-of_z wide_inc, to_z-of_z product, to_z-of_z wide_offset) (omega (arith, ints))
