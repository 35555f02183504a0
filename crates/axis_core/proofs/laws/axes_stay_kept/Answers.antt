-- The invariant of an axis is kept.
use Rattle.std.specs.Prelude.{refl}
use Rattle.std.proofs.Common.{inl}
use Rattle.axis_core.proofs.KeptCommands.{commanded-kept}
use Rattle.axis_core.proofs.KeptCycles.{cycled-kept}
use Rattle.axis_core.proofs.KeptMoves.{Laws}
use Rattle.axis_core.proofs.KeptPowers.{detached-kept, on_path-kept, on_path-queue, opened-kept, powered-kept}
use Rattle.axis_core.proofs.KeptQueues.{queue-detached}
use Rattle.axis_core.proofs.KeptRows.{row-kept}
use Rattle.axis_core.proofs.laws.axes_stay_kept.Goals as goal
use Rattle.axis_core.proofs.laws.axes_stay_kept.Goals.{After-offsets_are_small}

laws : After-offsets_are_small → Laws
laws c = record {
  taken = c.taken_steps_keep.ensures.kept;
  slower = c.braking_steps_are_only_cut.ensures.slower;
  standing = c.standing_is_kept.ensures.kept;
  counts = c.setpoints_have_counts.ensures;
  homing = c.homing_keeps_counts.ensures;
  read_back = c.counts_are_read_back.ensures.count;
  near = c.counts_are_read_back.ensures.distance;
  offsets = c.offsets_are_small.ensures;
}

pub returns-clause-opened : goal.returns-clause-opened
returns-clause-opened c = λ d i. record { axis = opened-kept c.standing_is_kept.ensures.kept c.setpoints_have_counts.ensures d i; waiting = tt; queue = inl refl }

pub returns-clause-command : goal.returns-clause-command
returns-clause-command c = commanded-kept

pub returns-clause-power : goal.returns-clause-power
returns-clause-power c = powered-kept

pub returns-clause-detach : goal.returns-clause-detach
returns-clause-detach c = λ owner d k.
    let q = queue-detached owner d.axis d.waiting (record { numbers = k.waiting; place = k.queue }) in
    record { axis = detached-kept owner d.axis k.axis; waiting = q.numbers; queue = q.place }

pub returns-clause-path : goal.returns-clause-path
returns-clause-path c = λ on d k idle rest.
    let q = on_path-queue on d.axis d.waiting idle (record { numbers = k.waiting; place = k.queue }) in
    record { axis = on_path-kept on d.axis idle rest k.axis; waiting = q.numbers; queue = q.place }

pub returns-clause-cycle : goal.returns-clause-cycle
returns-clause-cycle c = λ look d k brought actual. cycled-kept (laws c) look d (record { brought = brought; actual = actual }) k

pub returns-clause-row : goal.returns-clause-row
returns-clause-row c = λ look d k brought. row-kept c.taken_steps_keep.ensures.admissible (laws c) look d brought k
