-- A call that was made is the next of the task, and comes late enough.
use Rattle.std.proofs.Common.{◌≡◌, false, sym, ap, subst, ◌∙◌, arith}
use Rattle.kernel_turn.specs.PermitState.{PermitState}
use Rattle.motion_plant.specs.Makers.{IsBy, Owns}
use Rattle.motion_history.specs.Setup.{Setup}
use Rattle.motion_plant.proofs.LoggedCalls.{last_call, may_follow, one_call, still_calls}
use Rattle.motion_plant.proofs.caller.TurnCallerCaller.call.Goals as goal

pub invariant_of-self : goal.invariant_of-self
invariant_of-self g c =
    let e = c.in-Some.ensures.some in
    let old = c.args.self.now in
    let new = c.call_until.new.permit in
    let config : new.config ≡ old.permit.config =
    ap (λ (p : PermitState). p.config) c.in-Some.ensures.fixed in
    let most = ap (λ (s : Setup). s.cycles) config in
    let x = e.5 in
    let y = e.6 in
    let z = old.small in
    record {
      own = ap (λ (p : PermitState). p.table) c.in-Some.ensures.fixed ∙ old.own;
      owns = subst (λ (s : Setup). Owns (IsBy s old.turns.now.task) new.own new.seen)
          (sym config) c.in-Some.ensures.owns;
      calls = still_calls _ _ e.0 _ _ _ old.calls e.1;
      last_is = last_call _ _ e.0 _ _ _ c.in-Some.cycles e.1 e.2;
      behind = x;
      few = omega arith;
      small = omega arith;
      cut = λ t. let u : old.was_refused ≡ false = c.requires.unrefused in absurd (cc);
    }

pub returns-in-Some-clause-made : goal.returns-in-Some-clause-made
returns-in-Some-clause-made g c =
    let e = c.in-Some.ensures.some in
    let old = c.args.self.now in
    let new = c.call_until.new.permit in
    let config : new.config ≡ old.permit.config =
    ap (λ (p : PermitState). p.config) c.in-Some.ensures.fixed in
    let calls = one_call _ _ e.0 _ _ _ c.in-Some.cycles e.1 e.2 in
    record {
      cycles = c.in-Some.cycles;
      follows = may_follow old.last _ old.asks_rest _ c.in-Some.cycles old.last_is
          c.first_cycle.ensures.value e.3 old.behind e.4;
      caller = λ j. record {
        config = config j;
        task = old.turns.now.task;
        calls = calls j;
        rests = false;
        refused = old.was_refused;
      };
    }
