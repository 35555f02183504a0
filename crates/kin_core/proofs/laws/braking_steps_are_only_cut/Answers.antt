-- The parts of the taken step above and below zero, put together.
use Rattle.std.proofs.Common.{ℕ, ◌-◌, ◌≤◌, ℤ, pos, neg_ℤ, ◌-ℤ◌, ◌≤ℤ◌, unsigned_abs, arith}
use Rattle.std.proofs.lemmas.Int.{ints}
use Rattle.motion_numbers.specs.Laws.{AreWays}
use Rattle.motion_numbers.specs.Run.{cut_at_zero}
use Rattle.kin_core.proofs.Sizes.{cut_is}
use Rattle.kin_core.proofs.Moves.{braking_is_cut}
use Rattle.kin_core.proofs.laws.braking_steps_are_only_cut.Goals as goal

module _ (ways : AreWays) where
  less : (u v : ℤ) (d : ℕ) → cut_at_zero u ≤ cut_at_zero v - d → cut_at_zero (neg_ℤ u) ≤ cut_at_zero (neg_ℤ v) - d → unsigned_abs u ≤ unsigned_abs v - d
  less u v d up down = omega (arith, ints, cut_is ways)

  goes_up : (u before now : ℤ) (d : ℕ) → cut_at_zero (neg_ℤ u) ≤ cut_at_zero (neg_ℤ (now -ℤ before)) - d → before ≤ℤ now → pos 0 ≤ℤ u
  goes_up u before now d down goes = omega (arith, ints, cut_is ways)

  goes_down : (u before now : ℤ) (d : ℕ) → cut_at_zero u ≤ cut_at_zero (now -ℤ before) - d → now ≤ℤ before → u ≤ℤ pos 0
  goes_down u before now d up goes = omega (arith, ints, cut_is ways)

pub returns : goal.returns
returns c =
    let ways = c.ways_to_rest.ensures in
    let cut = braking_is_cut c.ways_to_rest.ensures in
    record {
      slower = λ limits before now d ok kept some gentle.
          let parts = cut limits before now d ok kept some gentle in less ways _ _ _ parts.0 parts.1;
      forward = λ limits before now d ok kept some gentle goes.
          goes_up ways _ before now _ (cut limits before now d ok kept some gentle).1 goes;
      backward = λ limits before now d ok kept some gentle goes.
          goes_down ways _ before now _ (cut limits before now d ok kept some gentle).0 goes;
    }
