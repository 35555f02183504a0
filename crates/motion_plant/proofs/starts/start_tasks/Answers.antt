-- One task more is started.
use Rattle.std.proofs.Common.{rules, ◌≡◌, suc, ◌+◌, ap, ◌∙◌, arith}
use Rattle.kernel_turn.specs.Turns.{permit_after_split}
use Rattle.motion_plant.proofs.Started.{seat_more, started_more}
use Rattle.motion_plant.specs.Jobs.{seat_job}
use Rattle.motion_plant.proofs.starts.start_tasks.Goals as goal

pub loop-i-preserved : goal.loop-i-preserved
loop-i-preserved g c =
    let inv = c.loop-i.invariant in
    let e = c.in_ok-seat.ensures.started in
    let next : suc c.loop-i.i ≡ c.loop-i.i + 1 = omega arith in
    record {
      started = started_more seat_job _ _ _ _ _ _ e.0 inv.started c.push_within.ensures.items;
      seats = seat_more _ c.args.permit.now c.loop-i.permit c.loop-i.seats.items
          c.push_within.new.list.items c.in_ok-seat.seat c.loop-i.i inv.seats
          c.push_within.ensures.items e.1 inv.permit (search rules);
      permit = e.2 ∙ ap permit_after_split inv.permit ∙ ap (λ n. record c.args.permit.now { out = n }) next;
      len = search rules;
      capacity = search rules;
      faults = c.in_ok-seat.ensures.faults ∙ inv.faults;
    }
