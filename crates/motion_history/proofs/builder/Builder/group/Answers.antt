-- What passed the tests of a group keeps the configuration within its ranges.
use Rattle.std.proofs.Common.{◌∙◌, sym}
use Rattle.motion_history.specs.Items.{setup_of}
use Rattle.motion_history.proofs.FaultLemmas.{IsNewGroup, group_fault-none}
use Rattle.motion_history.proofs.SetupLemmas.{IsWithin-group}
use Rattle.motion_history.proofs.builder.Builder.group.Goals as goal

pub group_of-requires : goal.group_of-requires
group_of-requires c =
    let new = group_fault-none _ _ _ (sym c.group_fault.ensures ∙ c.in_default.is) in
    record { name = new.name_is.named; few = new.few }

pub invariant_of-self-2 : goal.invariant_of-self-2
invariant_of-self-2 c =
    let new : IsNewGroup (setup_of c.self.inside.items) c.args.name.now c.args.axes.now =
    group_fault-none _ _ _ (sym c.group_fault.ensures ∙ c.in_default.is) in
    rw (c.in_ok-push.ensures.items, c.group_of.ensures) (IsWithin-group _ _ _ c.self.invariant new)
