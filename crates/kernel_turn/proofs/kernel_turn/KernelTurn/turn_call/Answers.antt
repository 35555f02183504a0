use Rattle.std.proofs.Common.{rules, refl, ◌≡◌, subst}
use Rattle.motion_kernel.specs.KernelState.{KernelState}
use Rattle.kernel_turn.specs.Events.{CallTold, call_of}
use Rattle.kernel_turn.proofs.Turns.{found_by, grows_of, lawful_after, made_unstopped, makes_same, turn_taken}
use Rattle.kernel_turn.proofs.kernel_turn.KernelTurn.turn_call.Goals as goal

pub pass_on-requires-clause-grows : goal.pass_on-requires-clause-grows
pass_on-requires-clause-grows g c =
    let same : c.deref_mut.result.now ≡ c.take-kernel.result = search rules in
    (c.take-kernel.result, found_by _ _ _ c.take-kernel.ensures.holds, grows_of _ _ _ _ (makes_same (λ k. call_of k c.args.instance c.args.inputs.now) _ _ _ _ same c.try_call-turn.ensures.makes))

pub returns-clause-answer : goal.returns-clause-answer
returns-clause-answer g c =
    let same : c.deref_mut.result.now ≡ c.take-kernel.result = search rules in
    (c.take-kernel.result, c.try_call-turn.new.kernel, turn_taken _ _ _ _ _ _ _ _ _ _ c.permit.view_is (search rules) c.take-kernel.ensures.holds (makes_same (λ k. call_of k c.args.instance c.args.inputs.now) _ _ _ _ same c.try_call-turn.ensures.makes) c.pass_on.ensures.passed, subst (λ (k : KernelState). CallTold c.args.after c.args.instance c.args.inputs.now k c.try_call-turn.result) same c.try_call-turn.ensures.told)

pub returns-clause-lawful : goal.returns-clause-lawful
returns-clause-lawful g c =
    let same : c.deref_mut.result.now ≡ c.take-kernel.result = search rules in
    lawful_after _ _ _ _ _ _ _ c.take-kernel.ensures.holds (makes_same (λ k. call_of k c.args.instance c.args.inputs.now) _ _ _ _ same c.try_call-turn.ensures.makes) c.pass_on.ensures.passed c.pass_on.ensures.lawful

pub returns-clause-unstopped : goal.returns-clause-unstopped
returns-clause-unstopped g c =
    let same : c.deref_mut.result.now ≡ c.take-kernel.result = search rules in
    made_unstopped _ _ _ _ _ _ (turn_taken _ _ _ _ _ _ _ _ _ _ c.permit.view_is refl c.take-kernel.ensures.holds (makes_same (λ k. call_of k c.args.instance c.args.inputs.now) _ _ _ _ same c.try_call-turn.ensures.makes) c.pass_on.ensures.passed)
