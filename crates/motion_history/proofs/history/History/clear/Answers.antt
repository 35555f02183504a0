-- Nothing is kept any more, and there is room for all.
use Rattle.std.proofs.Common.{refl, ap, arith, ◌*◌}
use Rattle.motion_history.specs.Entries.{HistoryState}
use Rattle.motion_history.specs.Stored.{last_number_of}
use Rattle.motion_history.proofs.KeptLemmas.{IsKept-open, rows-open, state-open}
use Rattle.motion_history.proofs.history.History.clear.Goals as goal

pub invariant_of-self : goal.invariant_of-self
invariant_of-self c =
    let k = c.self.invariant.kept in
    record {
      kept = IsKept-open _
          (record {
            stored = c.clear.ensures.items;
            calls = c.clear-2.ensures.items;
            axis_rows = c.clear-3.ensures.items;
            group_rows = c.clear-4.ensures.items;
            made = refl;
          })
          (record {
            stored = omega (arith, k.stored_room, c.clear.ensures.capacity);
            calls = omega (arith, k.calls_room, c.clear-2.ensures.capacity);
            axis_rows = omega (arith, k.axis_room, c.clear-3.ensures.capacity);
            group_rows = omega (arith, k.group_room, c.clear-4.ensures.capacity);
          });
      bits = record {
        calls = rw c.clear-2.ensures.items tt;
        axis_rows = rw c.clear-3.ensures.items tt;
        group_rows = rw c.clear-4.ensures.items tt;
      };
      last = ap last_number_of c.clear.ensures.items;
    }

pub returns : goal.returns
returns c =
    let k = c.self.inside in
    let entries = state-open (record k {
      stored = c.clear.new.self;
      calls = c.clear-2.new.self;
      axis_rows = c.clear-3.new.self;
      group_rows = c.clear-4.new.self;
      made = 0;
    }) c.clear.ensures.items in
    λ i. record {
      axes = ap (λ (h : HistoryState). h.axes) c.self.view_is i;
      groups = ap (λ (h : HistoryState). h.groups) c.self.view_is i;
      room = ap (λ (h : HistoryState). h.room) c.self.view_is i;
      cycles = ap (λ (h : HistoryState). h.cycles) c.self.view_is i;
      entries = entries i;
      rows = rows-open c.clear-3.new.self.items (0 * k.axes) c.clear-3.ensures.items i;
      group_rows = rows-open c.clear-4.new.self.items (0 * k.groups) c.clear-4.ensures.items i;
    }
