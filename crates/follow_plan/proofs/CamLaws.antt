-- The laws of cam positions.
-- for: cam_positions_lie_between_points
use Rattle.std.proofs.Common.{◌≡◌, ℕ, zero, suc, ◌+◌, ◌-◌, ◌<◌, ◌≤◌, sym, ◌∙◌, ap, inl, inr, arith, ℤ, pos, ◌≤ℤ◌, ◌<ℤ◌, List, [], ◌∷◌, length, Some}
use Rattle.std.specs.Prelude.{All, slice_get}
use Rattle.std.proofs.lemmas.Bool.{cases_lt}
use Rattle.std.proofs.lemmas.Int.{ints, by_lt_z}
use Rattle.cam_table.specs.CamTable.{IsCamTable}
use Rattle.follow_plan.specs.Cam.{position_between, position_after, cam_position_of}
use Rattle.follow_plan.proofs.CamPlaces.{at_of, points_rise, neighbours_rise, before_first, after_point, behind_last, between_at_point, between_in_range, passed_first, next_passed, next_ahead, none_next}

-- the point that is read at an index, and that the index is one of the list
got : (points : List (ℤ × ℤ)) (at : ℕ) (p : ℤ × ℤ) → slice_get points at ≡ Some p → (at_of points at ≡ p) × (at < length points)
got [] at p e = absurd (cc)
got (q ∷ more) zero p e = (cc, omega arith)
got (q ∷ more) (suc at) p e = let there = got more at p e in (there.0, omega (arith, there.1))

-- a point passed, and those before it
passed_to : (points : List (ℤ × ℤ)) (at : ℕ) (master : ℤ) → IsCamTable points → at < length points → (at_of points at).0 ≤ℤ master → (k : ℕ) → k ≤ at → (at_of points k).0 ≤ℤ master
passed_to points at master table within passed k order = omega (arith, ints, points_rise points k at table order within)

pub between_two : (points : List (ℤ × ℤ)) (at : ℕ) (p q : ℤ × ℤ) (master : ℤ) → IsCamTable points → slice_get points at ≡ Some p → slice_get points (at + 1) ≡ Some q → p.0 ≤ℤ master → master <ℤ q.0 → cam_position_of points master ≡ position_between p q master
between_two points at p q master table here next passed ahead =
    let p_is = got points at p here in
    let q_is = got points (at + 1) q next in
    let p_passed : (at_of points at).0 ≤ℤ master = rw p_is.0 passed in
    let q_ahead : master <ℤ (at_of points (at + 1)).0 = rw q_is.0 ahead in
    after_point points master at (at + 1) (omega arith) (passed_to points at master table p_is.1 p_passed) q_is.1 q_ahead
    ∙ ap (λ r. position_between r (at_of points (at + 1)) master) p_is.0
    ∙ ap (λ r. position_between p r master) q_is.0

pub behind_the_last : (points : List (ℤ × ℤ)) (last : ℤ × ℤ) (master : ℤ) → IsCamTable points → slice_get points (length points - 1) ≡ Some last → last.0 ≤ℤ master → cam_position_of points master ≡ last.1
behind_the_last points last master table here passed =
    let is = got points (length points - 1) last here in
    let last_passed : (at_of points (length points - 1)).0 ≤ℤ master = rw is.0 passed in
    behind_last points master (length points - 1) (omega (arith, is.1)) (passed_to points (length points - 1) master table is.1 last_passed)
    ∙ ap (λ r. r.1) is.0

-- at an index, where the master stands at the point there
at_index : (points : List (ℤ × ℤ)) (at : ℕ) (master : ℤ) → IsCamTable points → at < length points → master ≡ (at_of points at).0 → cam_position_of points master ≡ (at_of points at).1
at_index points at master table within here =
    elim (cases_lt (at + 1) (length points)) [
      | inl more ↦ (let rise : (at_of points at).0 <ℤ (at_of points (at + 1)).0 = neighbours_rise points at (at + 1) table (omega arith) more in
          after_point points master at (at + 1) (omega arith) (passed_to points at master table within (omega (arith, ints))) more (omega (arith, ints))
          ∙ between_at_point (at_of points at) (at_of points (at + 1)) master here rise)
      | inr last ↦ behind_last points master at (omega arith) (passed_to points at master table within (omega (arith, ints)))
    ]

pub at_a_point : (points : List (ℤ × ℤ)) (at : ℕ) (p : ℤ × ℤ) → IsCamTable points → slice_get points at ≡ Some p → cam_position_of points p.0 ≡ p.1
at_a_point points at p table here =
    let is = got points at p here in
    at_index points at p.0 table is.1 (ap (λ r. r.0) (sym is.0)) ∙ ap (λ r. r.1) is.0

pub before_the_first : (points : List (ℤ × ℤ)) (first : ℤ × ℤ) (master : ℤ) → IsCamTable points → slice_get points 0 ≡ Some first → master ≤ℤ first.0 → cam_position_of points master ≡ first.1
before_the_first points first master table here before =
    let is = got points 0 first here in
    let behind : master ≤ℤ (at_of points 0).0 = rw is.0 before in
    by_lt_z master (at_of points 0).0
    (λ ahead. before_first points master is.1 ahead ∙ ap (λ r. r.1) is.0)
    (λ there. at_index points 0 master table is.1 (omega (arith, ints)) ∙ ap (λ r. r.1) is.0)

-- in the range that the point passed and those after it keep
range_after : (p : ℤ × ℤ) (more : List (ℤ × ℤ)) (low high master : ℤ) → p.0 ≤ℤ master → (low ≤ℤ p.1) × (p.1 ≤ℤ high) → ((k : ℕ) → k < length more → (low ≤ℤ (at_of more k).1) × ((at_of more k).1 ≤ℤ high)) → (low ≤ℤ position_after p more master) × (position_after p more master ≤ℤ high)
range_after p [] low high master passed here others = rw (none_next p master) here
range_after p (q ∷ more) low high master passed here others =
    let next : (low ≤ℤ q.1) × (q.1 ≤ℤ high) = others 0 (omega arith) in
    by_lt_z master q.0
    (λ ahead. rw (next_ahead p q more master ahead) (between_in_range p q low high master passed ahead here.0 here.1 next.0 next.1))
    (λ behind. rw (next_passed p q more master behind) (range_after q more low high master behind next (λ k h. others (suc k) (omega arith))))

range_of : (points : List (ℤ × ℤ)) (low high master : ℤ) → 0 < length points → ((k : ℕ) → k < length points → (low ≤ℤ (at_of points k).1) × ((at_of points k).1 ≤ℤ high)) → (low ≤ℤ cam_position_of points master) × (cam_position_of points master ≤ℤ high)
range_of [] low high master some all = absurd (omega arith)
range_of (p ∷ more) low high master some all =
    by_lt_z master p.0
    (λ before. rw (before_first (p ∷ more) master some before) (all 0 some))
    (λ passed. rw (passed_first p more master passed) (range_after p more low high master passed (all 0 some) (λ k h. all (suc k) (omega arith))))

pub in_the_range : (points : List (ℤ × ℤ)) (low high master : ℤ) → IsCamTable points → All (λ p. (low ≤ℤ p.1) × (p.1 ≤ℤ high)) points → (low ≤ℤ cam_position_of points master) × (cam_position_of points master ≤ℤ high)
in_the_range points low high master table all = range_of points low high master (omega arith) (λ k h. all k (pos 0, pos 0) h)
