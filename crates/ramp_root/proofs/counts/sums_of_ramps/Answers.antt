-- The lemmas on sums.
use Rattle.ramp_root.proofs.SumLemmas.{sum_of-shift, sum_of-pairs, sum_of-size, sum_of-front, sum_of-split, sum_of-more}
use Rattle.ramp_root.proofs.counts.sums_of_ramps.Goals as goal

pub returns : goal.returns
returns c = record {
  sum_shifts = sum_of-shift;
  sum_pairs = sum_of-pairs;
  sum_size = sum_of-size;
  sum_front = sum_of-front;
  sum_splits = sum_of-split;
  sum_grows = sum_of-more;
}
