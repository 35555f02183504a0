-- All entries so far are the past of the kernel that goes on.
use Rattle.std.proofs.Common.{subst, sym}
use Rattle.lasting_kernel.specs.Lasting.{HasPast, LastingState}
use Rattle.lasting_kernel.proofs.Pasts.{hand-over-has, legal-behind, machine-behind}
use Rattle.lasting_kernel.proofs.lasting.LastingKernel.forget.Goals as goal

pub invariant_of-self : goal.invariant_of-self
invariant_of-self c =
    let k : LastingState = record { kernel = c.self.inside.kernel_with_past.kernel; past = c.self.inside.kernel_with_past.past.entries } in
    let s = k.kernel.config in
    let has : HasPast k = c.self.invariant in
    let past = c.segments_keep_their_laws.ensures.past s k.past k.kernel.history has.past (legal-behind k has c.history.ensures.legal) in
    let machine = machine-behind k has (c.segments_keep_their_laws.ensures.machine s k.past k.kernel.history) in
    subst HasPast (λ i. record { kernel = sym c.forget.ensures i; past = sym c.joined.ensures i }) (hand-over-has k has past machine)
