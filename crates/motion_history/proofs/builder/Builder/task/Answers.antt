-- What passed the tests of a task keeps the configuration within its ranges.
use Rattle.std.proofs.Common.{◌∙◌, sym}
use Rattle.motion_history.specs.Items.{setup_of}
use Rattle.motion_history.proofs.FaultLemmas.{IsNewTask, task_fault-none}
use Rattle.motion_history.proofs.SetupLemmas.{IsWithin-task}
use Rattle.motion_history.proofs.builder.Builder.task.Goals as goal

pub new-requires : goal.new-requires
new-requires c = (task_fault-none _ _ (sym c.task_fault.ensures ∙ c.in_default.is)).name_is.named

pub invariant_of-self-2 : goal.invariant_of-self-2
invariant_of-self-2 c =
    let new : IsNewTask (setup_of c.self.inside.items) c.args.name.now =
    task_fault-none _ _ (sym c.task_fault.ensures ∙ c.in_default.is) in
    rw (c.in_ok-push.ensures.items, c.new.ensures) (IsWithin-task _ _ c.self.invariant new)
