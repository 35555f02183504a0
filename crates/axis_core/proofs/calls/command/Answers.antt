-- What a command asks of its parts, and what it keeps.
use Rattle.std.proofs.Common.{◌∙◌, sym, subst}
use Rattle.axis_core.specs.AxisKept.{IsCoreKept}
use Rattle.axis_core.specs.Cores.{Core, core_at}
use Rattle.axis_core.specs.Calls.{core_after_admission}
use Rattle.axis_core.specs.Kept.{IsSmallTarget, MayAdmit}
use Rattle.axis_core.specs.blocks.Moves.{with_target}
use Rattle.axis_core.proofs.KeptCommands.{admitted-kept}
use Rattle.axis_core.proofs.KeptPowers.{active-small, may-ask, waiting-small}
use Rattle.axis_core.proofs.MayAdmit.{asked-as, may-admit, target-as}
use Rattle.axis_core.proofs.SmallTargets.{last-small}
use Rattle.axis_core.proofs.calls.command.Goals as goal

pub refusal_of-requires : goal.refusal_of-requires
refusal_of-requires c =
    may-ask c.offsets_are_small.ensures _ c.requires.made c.requires.kept.axis
    (subst IsSmallTarget (sym c.last-last.ensures) (last-small _ (waiting-small c.args.axis.now.limits _ c.requires.kept.waiting)))

pub known_target-target-requires-clause-active : goal.known_target-target-requires-clause-active
known_target-target-requires-clause-active c = active-small c.args.axis.now c.requires.kept.axis

pub known_target-target-requires-clause-last : goal.known_target-target-requires-clause-last
known_target-target-requires-clause-last c =
    subst IsSmallTarget (sym c.last-last.ensures) (last-small _ (waiting-small c.args.axis.now.limits _ c.requires.kept.waiting))

pub admit_command-requires-clause-may : goal.admit_command-requires-clause-may
admit_command-requires-clause-may c =
    let before : Core = core_at c.args.axis.now c.args.pool.now c.args.list c.args.notes.now in
    let free = asked-as before _ c.args.wanted.now _ _ _ _ _ c.waiting.ensures.count c.last-last.ensures
    (sym c.refusal_of.ensures ∙ c.in_default.is) in
    subst (λ t. MayAdmit c.args.wanted.now.kind (with_target t c.args.wanted.now) before)
    (target-as before c.args.wanted.now _ _ c.last-last.ensures c.known_target-target.ensures)
    (may-admit before _ c.args.wanted.now _ _ _ c.requires.kept c.requires.made free)

pub returns-clause-kept : goal.returns-clause-kept
returns-clause-kept c =
    let before : Core = core_at c.args.axis.now c.args.pool.now c.args.list c.args.notes.now in
    let free = asked-as before _ c.args.wanted.now _ _ _ _ _ c.waiting.ensures.count c.last-last.ensures
    (sym c.refusal_of.ensures ∙ c.in_default.is) in
    subst IsCoreKept (sym c.admit_command.ensures.after)
    (subst (λ t. IsCoreKept (core_after_admission c.args.wanted.now.kind (with_target t c.args.wanted.now) before))
    (target-as before c.args.wanted.now _ _ c.last-last.ensures c.known_target-target.ensures)
    (admitted-kept before _ c.args.wanted.now _ _ _ c.requires.kept c.requires.made free))
