-- The place is chosen by the test of its definition.
use Rattle.std.specs.Prelude.{◌≡◌, ◌-ℤ◌, ◌+ℤ◌, ◌*ℤ◌, ◌&&◌, int_lt, true, false}
use Rattle.std.proofs.Common.{arith, sym, ◌∙◌, w32, w64, FitsSigned, to_z-of_z}
use Rattle.std.proofs.lemmas.Int.{ints}
use Rattle.plc_types.proofs.CountLemmas.{place-tested}
use Rattle.plc_types.proofs.count.place.Goals as goal

pub returns-then-is_just_below-clause-value : goal.returns-then-is_just_below-clause-value
returns-then-is_just_below-clause-value c =
    let n : FitsSigned w32 c.args.count = c.ranges.count in
    let l : FitsSigned w64 c.args.lo = c.ranges.lo in
    let i : FitsSigned w64 c.args.inc = c.ranges.inc in
    let o : FitsSigned w64 c.args.offset = c.ranges.offset in
    let counted : c.counted_place-counted.result ≡ (c.args.count *ℤ c.args.inc) +ℤ c.args.offset = simp to_z-of_z at c.counted_place-counted.ensures.value in
    let r : FitsSigned w64 c.counted_place-counted.result = omega (arith, ints, c.counted_place-counted.ensures.small) in
    let test : c.is_just_below.result ≡ (int_lt (c.args.lo -ℤ c.args.inc) c.counted_place-counted.result && int_lt c.counted_place-counted.result c.args.lo) = simp to_z-of_z at c.is_just_below.ensures in
    to_z-of_z l ∙ sym (place-tested c.args.lo c.args.count c.args.offset c.args.inc c.counted_place-counted.result true counted (sym c.if-is_just_below.true ∙ test))

pub returns-else-is_just_below-clause-value : goal.returns-else-is_just_below-clause-value
returns-else-is_just_below-clause-value c =
    let n : FitsSigned w32 c.args.count = c.ranges.count in
    let l : FitsSigned w64 c.args.lo = c.ranges.lo in
    let i : FitsSigned w64 c.args.inc = c.ranges.inc in
    let o : FitsSigned w64 c.args.offset = c.ranges.offset in
    let counted : c.counted_place-counted.result ≡ (c.args.count *ℤ c.args.inc) +ℤ c.args.offset = simp to_z-of_z at c.counted_place-counted.ensures.value in
    let r : FitsSigned w64 c.counted_place-counted.result = omega (arith, ints, c.counted_place-counted.ensures.small) in
    let test : c.is_just_below.result ≡ (int_lt (c.args.lo -ℤ c.args.inc) c.counted_place-counted.result && int_lt c.counted_place-counted.result c.args.lo) = simp to_z-of_z at c.is_just_below.ensures in
    to_z-of_z r ∙ sym (place-tested c.args.lo c.args.count c.args.offset c.args.inc c.counted_place-counted.result false counted (sym c.if-is_just_below.false ∙ test))
