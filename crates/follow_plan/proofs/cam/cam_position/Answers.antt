-- The number of points passed says where the master lies.
use Rattle.std.proofs.Common.{◌≡◌, ◌-◌, arith, ◌∙◌, ℕ, ◌<◌, ◌≤ℤ◌, ◌<ℤ◌, to_z, of_z, to_z-of_z, FitsSigned, w64}
use Rattle.std.proofs.lemmas.Int.{ints}
use Rattle.cam_table.specs.CamTable.{IsCamTable}
use Rattle.follow_plan.specs.Cam.{position_between}
use Rattle.follow_plan.proofs.CamPlaces.{at_of, before_first, after_point, behind_last, point_in_range, same_table, same_position}
use Rattle.follow_plan.proofs.cam.cam_position.Goals as goal

pub returns-then-passed-eq0-clause-value : goal.returns-then-passed-eq0-clause-value
returns-then-passed-eq0-clause-value c =
    let table : IsCamTable c.points-points.result.now = same_table _ _ c.points-points.ensures.points c.points-points.ensures.table in
    let fits : FitsSigned w64 c.args.master = c.ranges.master in
    let ahead : c.args.master <ℤ (at_of c.points-points.result.now 0).0 = simp to_z-of_z at (c.points_passed-passed.ensures.ahead 0 (omega arith) (omega arith)) in
    let is = before_first c.points-points.result.now c.args.master (omega arith) ahead in
    same_position _ _ _ _ _ (omega (arith, ints, point_in_range _ 0 table (omega arith))) is c.points-points.ensures.points

pub returns-then-passed-points-clause-value : goal.returns-then-passed-points-clause-value
returns-then-passed-points-clause-value c =
    let table : IsCamTable c.points-points.result.now = same_table _ _ c.points-points.ensures.points c.points-points.ensures.table in
    let fits : FitsSigned w64 c.args.master = c.ranges.master in
    let passed : (k : ℕ) → k < c.points_passed-passed.result → (at_of c.points-points.result.now k).0 ≤ℤ c.args.master = λ k h. simp to_z-of_z at (c.points_passed-passed.ensures.passed k h) in
    let is = behind_last c.points-points.result.now c.args.master (c.points_passed-passed.result - 1) (omega arith) (λ k h. passed k (omega arith)) in
    same_position _ _ _ _ _ (omega (arith, ints, point_in_range _ (c.points_passed-passed.result - 1) table (omega arith))) is c.points-points.ensures.points

pub interpolate-requires-clause-after_in_range : goal.interpolate-requires-clause-after_in_range
interpolate-requires-clause-after_in_range c =
    point_in_range _ _ (same_table _ _ c.points-points.ensures.points c.points-points.ensures.table) (omega arith)

pub returns-clause-value : goal.returns-clause-value
returns-clause-value c =
    let fits : FitsSigned w64 c.args.master = c.ranges.master in
    let passed : (k : ℕ) → k < c.points_passed-passed.result → (at_of c.points-points.result.now k).0 ≤ℤ c.args.master = λ k h. simp to_z-of_z at (c.points_passed-passed.ensures.passed k h) in
    let ahead : c.args.master <ℤ (at_of c.points-points.result.now c.points_passed-passed.result).0 = simp to_z-of_z at (c.points_passed-passed.ensures.ahead c.points_passed-passed.result (omega arith) (omega arith)) in
    let is = after_point c.points-points.result.now c.args.master (c.points_passed-passed.result - 1) c.points_passed-passed.result (omega arith) (λ k h. passed k (omega arith)) (omega arith) ahead in
    let value : c.interpolate.result ≡ position_between (at_of c.points-points.result.now (c.points_passed-passed.result - 1)) (at_of c.points-points.result.now c.points_passed-passed.result) c.args.master = simp to_z-of_z at c.interpolate.ensures.value in
    let same : to_z w64 (of_z w64 c.interpolate.result) ≡ c.interpolate.result = omega (arith, ints, c.interpolate.ensures.small) in
    same_position _ _ _ _ _ (same ∙ value) is c.points-points.ensures.points
