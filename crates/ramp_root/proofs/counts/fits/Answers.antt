-- The closed form is the sum.
use Rattle.ramp_root.proofs.SumLemmas.{fits_test}
use Rattle.ramp_root.proofs.counts.fits.Goals as goal

pub returns-clause-value : goal.returns-clause-value
returns-clause-value g c = fits_test c.args.k c.args.l c.args.d c.args.r c.saturating_sub.result c.saturating_sub.ensures
