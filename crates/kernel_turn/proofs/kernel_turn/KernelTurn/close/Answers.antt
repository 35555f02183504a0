use Rattle.std.proofs.Common.{rules, ◌≡◌, subst}
use Rattle.motion_kernel.specs.KernelState.{KernelState}
use Rattle.kernel_turn.specs.Turns.{IsClosed}
use Rattle.kernel_turn.proofs.Turns.{closed_of}
use Rattle.kernel_turn.proofs.kernel_turn.KernelTurn.close.Goals as goal

pub returns : goal.returns
returns g c =
    let same : c.take.result ≡ c.into_inner.result = search rules in
    record { closed = subst (λ (k : KernelState). IsClosed c.args.permit k) same (closed_of _ _ _ _ _ c.permit.view_is c.requires.opening c.requires.alone c.take.ensures.holds) }
