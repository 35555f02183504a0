-- Nothing is kept yet, and there is room for all.
use Rattle.std.specs.Prelude.{◌*◌, refl, length}
use Rattle.std.proofs.Common.{arith, ap}
use Rattle.motion_history.specs.Stored.{last_number_of}
use Rattle.motion_history.proofs.KeptLemmas.{IsKept-open, rows-open, state-open}
use Rattle.motion_history.proofs.history.reserved.Goals as goal

pub invariant_of-result : goal.invariant_of-result
invariant_of-result c =
    record {
      kept = IsKept-open _
          (record {
            stored = c.in_ok-with_capacity.ensures.items;
            calls = c.in_ok-with_capacity-2.ensures.items;
            axis_rows = c.in_ok-with_capacity-3.ensures.items;
            group_rows = c.in_ok-with_capacity-4.ensures.items;
            made = refl;
          })
          (record {
            stored = omega (arith, c.in_ok-with_capacity.ensures.exact);
            calls = omega (arith, c.in_ok-with_capacity-2.ensures.exact);
            axis_rows = omega (arith, c.in_ok-with_capacity-3.ensures.exact);
            group_rows = omega (arith, c.in_ok-with_capacity-4.ensures.exact);
          });
      bits = record {
        calls = rw c.in_ok-with_capacity-2.ensures.items tt;
        axis_rows = rw c.in_ok-with_capacity-3.ensures.items tt;
        group_rows = rw c.in_ok-with_capacity-4.ensures.items tt;
      };
      last = ap last_number_of c.in_ok-with_capacity.ensures.items;
    }

pub returns : goal.returns
returns c =
    let e = state-open (record {
      stored = c.in_ok-with_capacity.field-0;
      calls = c.in_ok-with_capacity-2.field-0;
      axis_rows = c.in_ok-with_capacity-3.field-0;
      group_rows = c.in_ok-with_capacity-4.field-0;
      axes = length c.axes-axes.result.now;
      groups = length c.groups-groups.result.now;
      room = c.entries-room.result;
      made = 0;
      most = c.cycles-most.result;
    }) c.in_ok-with_capacity.ensures.items in
    λ i. record {
      axes = ap length c.axes-axes.ensures.axes i;
      groups = ap length c.groups-groups.ensures i;
      room = c.entries-room.ensures i;
      cycles = c.cycles-most.ensures i;
      entries = e i;
      rows = rows-open c.in_ok-with_capacity-3.field-0.items (0 * length c.axes-axes.result.now) c.in_ok-with_capacity-3.ensures.items i;
      group_rows = rows-open c.in_ok-with_capacity-4.field-0.items (0 * length c.groups-groups.result.now) c.in_ok-with_capacity-4.ensures.items i;
    }
