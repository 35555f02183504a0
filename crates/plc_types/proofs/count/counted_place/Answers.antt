-- The sum fits.
use Rattle.std.specs.Prelude.{◌≡◌, ◌≤◌, ◌+ℤ◌, ◌*ℤ◌, unsigned_abs}
use Rattle.std.proofs.Common.{arith, ◌∙◌, to_z, of_z, w32, w64, FitsSigned, to_z-of_z}
use Rattle.std.proofs.lemmas.Int.{ints}
use Rattle.plc_types.specs.Counts.{IsCount}
use Rattle.plc_types.proofs.CountLemmas.{count-size}
use Rattle.plc_types.proofs.count.counted_place.Goals as goal

sized : (c : goal.After-from) → unsigned_abs (c.args.count *ℤ c.args.inc) ≤ 2147483648000000000
sized c =
    let n : FitsSigned w32 c.args.count = c.ranges.count in
    let counts : IsCount c.args.count = record { least = omega (arith, ints); most = omega (arith, ints) } in
    count-size c.args.count c.args.inc c.requires.least c.requires.most counts

value : (c : goal.After-from) → to_z w64 (of_z w64 (to_z w64 (of_z w64 (to_z w64 (of_z w64 c.from.result) *ℤ to_z w64 (of_z w64 c.args.inc))) +ℤ to_z w64 (of_z w64 c.args.offset)))
    ≡ (c.args.count *ℤ c.args.inc) +ℤ c.args.offset
value c =
    let n : FitsSigned w32 c.args.count = c.ranges.count in
    let i : FitsSigned w64 c.args.inc = c.ranges.inc in
    let o : FitsSigned w64 c.args.offset = c.ranges.offset in
    let from : c.from.result ≡ c.args.count = c.from.ensures ∙ to_z-of_z n in
    let wide : FitsSigned w64 c.args.count = omega (arith, ints) in
    let size = sized c in
    let product : FitsSigned w64 (c.args.count *ℤ c.args.inc) = omega (arith, ints) in
    let total : FitsSigned w64 ((c.args.count *ℤ c.args.inc) +ℤ c.args.offset) = omega (arith, ints) in
    rw from (simp to_z-of_z)

pub returns-clause-value : goal.returns-clause-value
returns-clause-value c = value c

pub returns-clause-small : goal.returns-clause-small
returns-clause-small c = let size = sized c in rw (value c) (omega (arith, ints))
