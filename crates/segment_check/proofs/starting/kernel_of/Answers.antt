-- The machine is the one that was tested, or has a flaw.
use Rattle.std.proofs.Common.{◌≡◌, ◌∙◌, [], ap, subst, sym}
use Rattle.motion_history.specs.Setup.{Setup}
use Rattle.motion_kernel.specs.Segments.{SegmentedState}
use Rattle.motion_kernel.specs.kept.Machine.{IsSized}
use Rattle.motion_kernel.specs.owners.Blocks.{OwnersHaveBlocks}
use Rattle.segment_check.specs.Flaws.{IsFlawOf}
use Rattle.segment_check.proofs.Flaws.{may_without, not_with}
use Rattle.segment_check.proofs.starting.kernel_of.Goals as goal

pub resume-requires-clause-spare : goal.resume-requires-clause-spare
resume-requires-clause-spare c =
    let p = c.args.trace_segment.now in
    let kernel : c.in_ok-kernel.kernel.config ≡ c.in_ok-config.config = ap (λ (k : SegmentedState). k.config) c.in_ok-kernel.ensures in
    let config : c.in_ok-config.config ≡ p.trace.config = c.in_ok-config.ensures ∙ c.config.ensures in
    let may = may_without p (subst (IsFlawOf p) c.in-None.is c.in_ok-flaw.ensures.told) in
    let kept = may.machine in
    record {
      start = subst (IsSized c.in_ok-kernel.kernel.config) (sym (c.in_ok-flaw.ensures.made c.in-None.is))
          (subst (λ (s : Setup). IsSized s p.machine) (sym (kernel ∙ config)) kept.sized);
      history = c.in_ok-segment.ensures.spare.history;
    }

pub resume-requires-clause-owners : goal.resume-requires-clause-owners
resume-requires-clause-owners c =
    let p = c.args.trace_segment.now in
    let kernel : c.in_ok-kernel.kernel.config ≡ c.in_ok-config.config = ap (λ (k : SegmentedState). k.config) c.in_ok-kernel.ensures in
    let config : c.in_ok-config.config ≡ p.trace.config = c.in_ok-config.ensures ∙ c.config.ensures in
    let may = may_without p (subst (IsFlawOf p) c.in-None.is c.in_ok-flaw.ensures.told) in
    subst (OwnersHaveBlocks c.in_ok-kernel.kernel.config) (sym (c.in_ok-flaw.ensures.made c.in-None.is))
    (subst (λ (s : Setup). OwnersHaveBlocks s p.machine) (sym (kernel ∙ config)) may.owners)

pub returns-in-Some : goal.returns-in-Some
returns-in-Some c =
    let p = c.args.trace_segment.now in
    let found = subst (IsFlawOf p) c.in-Some.is c.in_ok-flaw.ensures.told in
    (found, not_with p c.in-Some.flaw found)

pub returns-in-None : goal.returns-in-None
returns-in-None c =
    let p = c.args.trace_segment.now in
    let kernel : c.in_ok-kernel.kernel.config ≡ c.in_ok-config.config = ap (λ (k : SegmentedState). k.config) c.in_ok-kernel.ensures in
    let config : c.in_ok-config.config ≡ p.trace.config = c.in_ok-config.ensures ∙ c.config.ensures in
    let same = kernel ∙ config in
    let made = c.in_ok-flaw.ensures.made c.in-None.is in (
      may_without p (subst (IsFlawOf p) c.in-None.is c.in_ok-flaw.ensures.told),
      c.resume.ensures ∙ (λ i. record { config = same i; before = p.before; start = made i; history = [] }),
    )
