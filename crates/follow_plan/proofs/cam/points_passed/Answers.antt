-- The points are in two parts at the found place, since they rise.
use Rattle.std.proofs.Common.{rules, of_calls, int_le, ◌≡◌, ℤ, pos, true, false, arith}
use Rattle.std.proofs.lemmas.Fn.{always_returns_same}
use Rattle.std.proofs.lemmas.Int.{ints}
use Rattle.std.specs.List.Sorted.{IsPartitionPoint}
use Rattle.follow_plan.proofs.CamPlaces.{at_of, still_passed}
use Rattle.follow_plan.proofs.cam.points_passed.Goals as goal

parted : (c : goal.After-partition_point) → IsPartitionPoint (λ (p : ℤ × ℤ). int_le p.0 c.args.master ≡ true) (λ (p : ℤ × ℤ). int_le p.0 c.args.master ≡ false) c.args.points.now c.partition_point.result
parted c =
    c.partition_point.ensures.partitioned (λ p. int_le p.0 c.args.master)
    (always_returns_same _ _ _ (λ a r f k. search (rules, of_calls)))
    (λ i j d order within passed. still_passed c.args.points.now i j d c.args.master c.requires order within passed)

pub returns-clause-passed : goal.returns-clause-passed
returns-clause-passed c = λ at before. (let passed : int_le (at_of c.args.points.now at).0 c.args.master ≡ true = (parted c).0 at (pos 0, pos 0) (omega arith) before in omega (arith, ints))

pub returns-clause-ahead : goal.returns-clause-ahead
returns-clause-ahead c = λ at behind within. (let ahead : int_le (at_of c.args.points.now at).0 c.args.master ≡ false = (parted c).1 at (pos 0, pos 0) behind within in omega (arith, ints))
