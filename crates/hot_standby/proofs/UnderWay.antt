-- Events that are made one after another, up to the first that doesn't fit.
-- for: finish, promote
use Rattle.std.proofs.Common.{◌≡◌, List, [], ◌∷◌, ◌++◌, refl, ap, sym, subst, ◌∙◌}
use Rattle.std.proofs.lemmas.List.{append_assoc, append-nil}
use Rattle.motion_kernel.specs.KernelState.{KernelState}
use Rattle.hot_standby.specs.Events.{AreFit, IsFit, kernel_after, kernel_after_all}
use Rattle.hot_standby.specs.Strangers.{IsFirstStranger}
use Rattle.hot_standby.specs.declared.event.FedEvent.{FedEvent}
use Rattle.hot_standby.proofs.Folds.{after_more, fit_more}

-- some of the events were made, and these are left
pub record IsUnderWay (first now : KernelState) (events left : List FedEvent) : Type 0 where
  pub made : List FedEvent
  pub among : events ≡ made ++ left
  pub fit : AreFit first made
  pub kernel : now ≡ kernel_after_all first made

pub begun : (k : KernelState) (es : List FedEvent) → IsUnderWay k k es es
begun k es = record { made = []; among = refl; fit = tt; kernel = refl }

pub gone_on : (first now next : KernelState) (es left behind : List FedEvent) (e : FedEvent) →
    IsUnderWay first now es left → left ≡ e ∷ behind → IsFit now e → next ≡ kernel_after now e →
    IsUnderWay first next es behind
gone_on first now next es left behind e w split fit is = record {
  made = w.made ++ e ∷ [];
  among =
      w.among ∙ ap (λ xs. w.made ++ xs) split ∙ sym (append_assoc w.made (e ∷ []) behind);
  fit = fit_more first w.made e w.fit (subst (λ k. IsFit k e) w.kernel fit);
  kernel = is ∙ ap (λ k. kernel_after k e) w.kernel ∙ sym (after_more first w.made (e ∷ []));
}

pub met : (first now : KernelState) (es left behind : List FedEvent) (e : FedEvent) →
    IsUnderWay first now es left → left ≡ e ∷ behind → (IsFit now e → ⊥) →
    IsFirstStranger first es e
met first now es left behind e w split strange = record {
  before = w.made;
  behind = behind;
  among = w.among ∙ ap (λ xs. w.made ++ xs) split;
  fit = w.fit;
  stranger = (λ fit. strange (subst (λ k. IsFit k e) (sym w.kernel) fit));
}

-- all of them were made
pub record AreMade (first now : KernelState) (events : List FedEvent) : Type 0 where
  pub kernel : now ≡ kernel_after_all first events
  pub fit : AreFit first events

pub come : (first now : KernelState) (es left : List FedEvent) → IsUnderWay first now es left →
    left ≡ [] → AreMade first now es
come first now es left w none =
    let all = w.among ∙ ap (λ xs. w.made ++ xs) none ∙ append-nil w.made in
    record {
      kernel = w.kernel ∙ ap (kernel_after_all first) (sym all);
      fit = subst (AreFit first) (sym all) w.fit;
    }

no_end : (xs ys : List FedEvent) (y : FedEvent) → [] ≡ xs ++ y ∷ ys → ⊥
no_end [] ys y e = cc
no_end (x ∷ xs) ys y e = cc

-- among no events there is no stranger
pub no_stranger : (k : KernelState) (es : List FedEvent) (e : FedEvent) → es ≡ [] →
    IsFirstStranger k es e → ⊥
no_stranger k es e none s = no_end s.before s.behind e (sym none ∙ s.among)
