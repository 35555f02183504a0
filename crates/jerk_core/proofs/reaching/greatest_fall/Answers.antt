-- The most fits, or the reach is less.
use Rattle.std.proofs.Common.{inl, inr, ◌≡◌, ℕ, ◌<◌, ◌≤◌, min, Bool, IsTrue, ◌↔◌, false, arith}
use Rattle.std.proofs.lemmas.Bool.{both_ways, cases_lt}
use Rattle.motion_numbers.specs.Run.{run_of, reach_of}
use Rattle.motion_numbers.proofs.Reaches.{reach_greatest, below_reach_of}
use Rattle.jerk_core.proofs.reaching.greatest_fall.Goals as goal

-- the reach is less than a fall that doesn't fit
less : (b : Bool) (most speed j r : ℕ) → 1 ≤ j → IsTrue b ↔ (run_of most j ≤ speed) → b ≡ false → r ≡ reach_of speed j → r ≡ min most (reach_of speed j)
less b most speed j r some iff off is =
    elim (cases_lt speed (run_of most j)) [
      | inl over ↦ let below : reach_of speed j < most = below_reach_of most speed j some over in omega arith
      | inr fits ↦ absurd (both_ways b off (iff.1 fits))
    ]

pub returns-then-way_fits : goal.returns-then-way_fits
returns-then-way_fits c = record {
  value = omega (arith, reach_greatest c.args.most c.args.speed c.args.j c.requires.j (c.way_fits.ensures.0 c.if-way_fits.true));
}

pub returns-else-way_fits : goal.returns-else-way_fits
returns-else-way_fits c = record {
  value = less c.way_fits.result c.args.most c.args.speed c.args.j c.greatest_fall_of.result c.requires.j c.way_fits.ensures c.if-way_fits.false c.greatest_fall_of.ensures;
}
