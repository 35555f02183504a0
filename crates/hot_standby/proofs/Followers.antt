-- A standby goes on following.
-- for: take, promote
use Rattle.std.proofs.Common.{◌≡◌, List, [], ◌∷◌, ◌++◌, ap, sym, subst, ◌∙◌}
use Rattle.motion_kernel.specs.KernelState.{KernelState}
use Rattle.hot_standby.specs.Events.{AreFit, IsFit, kernel_after, kernel_after_all, opened}
use Rattle.hot_standby.specs.Followers.{IsFollower}
use Rattle.hot_standby.specs.Sides.{StandbySide}
use Rattle.hot_standby.specs.declared.event.FedEvent.{FedEvent}
use Rattle.hot_standby.proofs.Folds.{after_more, fit_more}

pub follows_on : (old new : StandbySide) (e : FedEvent) → IsFit old.kernel e →
    new.kernel ≡ kernel_after old.kernel e → new.taken ≡ old.taken ++ e ∷ [] →
    IsFollower old → IsFollower new
follows_on old new e fit is taken f =
    let first = opened old.kernel.config in
    record {
      fit =
          subst (λ (k : KernelState). AreFit (opened k.config) new.taken) (sym is)
          (subst (AreFit first) (sym taken)
          (fit_more first old.taken e f.fit (subst (λ k. IsFit k e) f.kernel fit)));
      kernel =
          is ∙ ap (λ k. kernel_after k e) f.kernel ∙ sym (after_more first old.taken (e ∷ []))
          ∙ ap (kernel_after_all first) (sym taken)
          ∙ ap (λ (k : KernelState). kernel_after_all (opened k.config) new.taken) (sym is);
    }

-- after the events that are left it is the kernel after all of them
pub promoted : (s : StandbySide) (left sent : List FedEvent) (k : KernelState) → IsFollower s →
    s.taken ++ left ≡ sent → k ≡ kernel_after_all s.kernel left →
    k ≡ kernel_after_all (opened s.kernel.config) sent
promoted s left sent k f all made =
    let first = opened s.kernel.config in
    made ∙ ap (λ n. kernel_after_all n left) f.kernel ∙ sym (after_more first s.taken left)
    ∙ ap (kernel_after_all first) all
