-- The lemma on the sum.
use Rattle.ramp_root.proofs.SumLemmas.{sum_of-closed}
use Rattle.ramp_root.proofs.counts.sums_in_closed_form.Goals as goal

pub returns : goal.returns
returns c = sum_of-closed
