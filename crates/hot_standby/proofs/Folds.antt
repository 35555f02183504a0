-- Events made one after another.
-- for: take, promote
use Rattle.std.proofs.Common.{◌≡◌, List, [], ◌∷◌, ◌++◌, refl}
use Rattle.motion_kernel.specs.KernelState.{KernelState}
use Rattle.hot_standby.specs.Events.{AreFit, IsFit, kernel_after, kernel_after_all}
use Rattle.hot_standby.specs.declared.event.FedEvent.{FedEvent}

-- the kernel after events and further ones
pub after_more : (k : KernelState) (es fs : List FedEvent) →
    kernel_after_all k (es ++ fs) ≡ kernel_after_all (kernel_after_all k es) fs
after_more k [] fs = refl
after_more k (e ∷ es) fs = after_more (kernel_after k e) es fs

-- one event more that fits
pub fit_more : (k : KernelState) (es : List FedEvent) (e : FedEvent) → AreFit k es →
    IsFit (kernel_after_all k es) e → AreFit k (es ++ e ∷ [])
fit_more k [] e all fit = (fit, tt)
fit_more k (x ∷ es) e all fit = (all.0, fit_more (kernel_after k x) es e all.1 fit)

-- events keep the configuration
pub after_config : (k : KernelState) (es : List FedEvent) →
    (kernel_after_all k es).config ≡ k.config
after_config k [] = refl
after_config k (e ∷ es) = after_config (kernel_after k e) es
