-- Nothing was before the segment.
use Rattle.lasting_kernel.proofs.Pasts.{opened-has}
use Rattle.lasting_kernel.proofs.lasting.LastingKernel.open.Goals as goal

pub invariant_of-result : goal.invariant_of-result
invariant_of-result c = opened-has _ c.args.config (λ i. record { kernel = c.in_ok-kernel.ensures i; past = c.none-past.ensures i })
