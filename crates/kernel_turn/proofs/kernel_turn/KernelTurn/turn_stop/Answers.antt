use Rattle.std.proofs.Common.{rules, true, ◌≡◌, ◌∙◌, ap}
use Rattle.motion_kernel.specs.KernelState.{KernelState}
use Rattle.kernel_turn.proofs.Turns.{found_by, is_found, lawful_after_stop, stop_taken, stops_of}
use Rattle.kernel_turn.proofs.kernel_turn.KernelTurn.turn_stop.Goals as goal

pub stop_on-requires-clause-grows : goal.stop_on-requires-clause-grows
stop_on-requires-clause-grows g c =
    let same : c.deref_mut.result.now ≡ c.take-kernel.result = search rules in
    (c.take-kernel.result, found_by _ _ _ c.take-kernel.ensures.holds, stops_of _ _ (c.stop.ensures ∙ ap (λ (k : KernelState). record k { stopped = true }) same))

pub returns-clause-stopped : goal.returns-clause-stopped
returns-clause-stopped g c =
    let same : c.deref_mut.result.now ≡ c.take-kernel.result = search rules in
    (c.take-kernel.result, is_found _ _ _ _ _ c.permit.view_is c.take-kernel.ensures.holds, stop_taken _ _ _ _ _ _ _ _ c.permit.view_is (search rules) c.take-kernel.ensures.holds (c.stop.ensures ∙ ap (λ (k : KernelState). record k { stopped = true }) same) c.stop_on.ensures.passed)

pub returns-clause-lawful : goal.returns-clause-lawful
returns-clause-lawful g c =
    let same : c.deref_mut.result.now ≡ c.take-kernel.result = search rules in
    lawful_after_stop _ _ _ _ _ c.take-kernel.ensures.holds (c.stop.ensures ∙ ap (λ (k : KernelState). record k { stopped = true }) same) c.stop_on.ensures.passed c.stop_on.ensures.lawful
