-- The flaws in their order: the counts, those of the machine, and that it isn't the one at opening.
use Rattle.std.proofs.Common.{◌≡◌, ◌∙◌, ◌∷◌, [], None, ap, inl, subst, sym}
use Rattle.motion_history.specs.Setup.{Setup}
use Rattle.motion_kernel.specs.Segments.{SegmentedState}
use Rattle.motion_kernel.specs.kept.Machine.{IsSized}
use Rattle.segment_check.specs.Flaws.{CountsFit, IsFirst, IsFree, machine_flaws}
use Rattle.segment_check.specs.declared.flaw.Flaw.TheVariants as flaw
use Rattle.segment_check.proofs.Flaws.{found_among, machine_kept, opening_told}
use Rattle.segment_check.proofs.starting.flaw_of.Goals as goal

pub returns-in-Some-clause-told : goal.returns-in-Some-clause-told
returns-in-Some-clause-told c =
    let p = c.args.trace_segment.now in
    let same : c.args.opened.now.config ≡ p.trace.config = ap (λ (k : SegmentedState). k.config) c.requires.opened in
    let told = subst (λ (s : Setup). IsFirst (IsFree s p.before p.machine) machine_flaws c.begin.result)
    (c.config-2.ensures ∙ same) (c.begin.ensures.told p.before) in
    inl (
      subst (λ (s : Setup). CountsFit s p.before) (c.config.ensures ∙ same) (c.counts_fit.ensures.0 c.if-not-counts_fit.false),
      found_among (IsFree p.trace.config p.before p.machine) machine_flaws (flaw.Opening ∷ []) c.in-Some.flaw
          (subst (IsFirst (IsFree p.trace.config p.before p.machine) machine_flaws) c.in-Some.is told),
    )

pub opening_flaw-requires-clause-sized : goal.opening_flaw-requires-clause-sized
opening_flaw-requires-clause-sized c =
    let p = c.args.trace_segment.now in
    let none = subst (IsFirst (IsFree c.config-2.result.now p.before p.machine) machine_flaws) c.in-None.is (c.begin.ensures.told p.before) in
    let kept = machine_kept c.config-2.result.now p.before p.machine none in
    subst (IsSized c.args.opened.now.config) (sym (c.begin.ensures.made c.in-None.is))
    (subst (λ (s : Setup). IsSized s p.machine) c.config-2.ensures kept.sized)

pub returns-in-None-clause-told : goal.returns-in-None-clause-told
returns-in-None-clause-told c =
    let p = c.args.trace_segment.now in
    let same : c.args.opened.now.config ≡ p.trace.config = ap (λ (k : SegmentedState). k.config) c.requires.opened in
    let none = subst (IsFirst (IsFree c.config-2.result.now p.before p.machine) machine_flaws) c.in-None.is (c.begin.ensures.told p.before) in
    opening_told p c.opening_flaw.result c.args.opened.now.config c.begin.new.start same (c.begin.ensures.made c.in-None.is)
    (subst (λ (s : Setup). CountsFit s p.before) (c.config.ensures ∙ same) (c.counts_fit.ensures.0 c.if-not-counts_fit.false))
    (subst (λ (s : Setup). IsFirst (IsFree s p.before p.machine) machine_flaws None) (c.config-2.ensures ∙ same) none)
    c.opening_flaw.ensures
