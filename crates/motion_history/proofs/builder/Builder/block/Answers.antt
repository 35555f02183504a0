-- What passed the tests of a block keeps the configuration within its ranges.
use Rattle.std.proofs.Common.{◌∙◌, sym}
use Rattle.motion_history.specs.Items.{setup_of}
use Rattle.motion_history.proofs.FaultLemmas.{IsNewBlock, block_fault-none}
use Rattle.motion_history.proofs.SetupLemmas.{IsWithin-block}
use Rattle.motion_history.proofs.builder.Builder.block.Goals as goal

pub new-requires : goal.new-requires
new-requires c = (block_fault-none _ _ _ _ _ (sym c.block_fault.ensures ∙ c.in_default.is)).name_is.named

pub invariant_of-self-2 : goal.invariant_of-self-2
invariant_of-self-2 c =
    let new : IsNewBlock (setup_of c.self.inside.items) c.args.name.now c.args.task c.args.kind c.args.object =
    block_fault-none _ _ _ _ _ (sym c.block_fault.ensures ∙ c.in_default.is) in
    rw (c.in_ok-push.ensures.items, c.new.ensures) (IsWithin-block _ _ c.self.invariant new)
