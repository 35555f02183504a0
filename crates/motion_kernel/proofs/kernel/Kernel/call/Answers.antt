-- A call is one more entry, and its task is heard.
use Rattle.std.specs.Option.{IsSomeAnd}
use Rattle.std.proofs.Common.{◌≡◌, ◌∙◌, ap, slice_get, sym, subst, ◌++◌, ◌∷◌, []}
use Rattle.motion_history.specs.Entries.{call}
use Rattle.motion_kernel.specs.Segments.{SegmentedState}
use Rattle.motion_kernel.specs.calls.Calls.{reply_of}
use Rattle.motion_kernel.specs.KernelState.{KernelState, state_of}
use Rattle.motion_kernel.specs.Machine.{Machine}
use Rattle.motion_kernel.proofs.kept.Kernel.{kernel_next, same_machine}
use Rattle.motion_kernel.proofs.Marked.{marked_by_task, task_fits}
use Rattle.motion_kernel.proofs.kernel.Kernel.call.Goals as goal

pub hear-requires : goal.hear-requires
hear-requires c =
    let s = c.self.inside.segmented.config in
    let task : IsSomeAnd (slice_get s.blocks c.args.instance) (λ b. b.task ≡ c.args.task) =
    subst (λ (x : KernelState). IsSomeAnd (slice_get x.config.blocks c.args.instance) (λ b. b.task ≡ c.args.task)) (sym c.self.view_is) c.requires.task in
    task_fits s c.args.instance c.args.task c.configurations_are_sound.ensures c.history.ensures.setup task

pub invariant_of-self : goal.invariant_of-self
invariant_of-self c =
    let k = c.self.inside in
    let s = k.segmented.config in
    let i = c.args.inputs.now in
    let task : IsSomeAnd (slice_get s.blocks c.args.instance) (λ b. b.task ≡ c.args.task) =
    subst (λ (x : KernelState). IsSomeAnd (slice_get x.config.blocks c.args.instance) (λ b. b.task ≡ c.args.task)) (sym c.self.view_is) c.requires.task in
    let few = task_fits s c.args.instance c.args.task c.configurations_are_sound.ensures c.history.ensures.setup task in
    kernel_next k (record k { segmented = c.call-reply.new.self; tasks = c.hear.new.self }) (call c.args.instance i c.call-reply.result) c.self.invariant c.call-reply.ensures.after
    (marked_by_task s k.segmented.history k.tasks.marks c.hear.new.self.marks c.args.instance i c.call-reply.result c.args.task c.self.invariant.tasks task few c.hear.ensures)

pub returns-clause-reply : goal.returns-clause-reply
returns-clause-reply c =
    let k = c.self.inside in
    c.call-reply.ensures.reply
    ∙ ap (λ (m : Machine). reply_of k.segmented.config m c.args.instance c.args.inputs.now) (same_machine k c.self.invariant)
    ∙ ap (λ (x : KernelState). reply_of x.config (state_of x) c.args.instance c.args.inputs.now) c.self.view_is

pub returns-clause-after : goal.returns-clause-after
returns-clause-after c =
    let k = c.self.inside in
    ap (λ (b : SegmentedState). let x : KernelState = record { config = b.config; history = b.history; stopped = k.stopped } in x) c.call-reply.ensures.after
    ∙ ap (λ (x : KernelState). record x { history = x.history ++ call c.args.instance c.args.inputs.now c.call-reply.result ∷ [] }) c.self.view_is
