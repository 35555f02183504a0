-- The segment after what was before it is one past.
use Rattle.std.proofs.Common.{subst}
use Rattle.motion_kernel.specs.Histories.{IsPast}
use Rattle.lasting_kernel.specs.Lasting.{HasPast, LastingState, whole_of}
use Rattle.lasting_kernel.proofs.Pasts.{legal-behind}
use Rattle.lasting_kernel.proofs.lasting.LastingKernel.keeps_laws.Goals as goal

pub returns-clause-whole_past : goal.returns-clause-whole_past
returns-clause-whole_past c =
    let k : LastingState = record { kernel = c.self.inside.kernel_with_past.kernel; past = c.self.inside.kernel_with_past.past.entries } in
    let has : HasPast k = c.self.invariant in
    let past = c.segments_keep_their_laws.ensures.past k.kernel.config k.past k.kernel.history has.past (legal-behind k has c.history.ensures.legal) in
    subst (λ (x : LastingState). IsPast x.kernel.config (whole_of x)) c.self.view_is past
