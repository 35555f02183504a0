-- The cycle stands at the end, with the rows that stand after those of the cycles before it.
use Rattle.std.specs.Prelude.{◌≡◌, ◌<◌, ◌+◌, length, vec_len}
use Rattle.std.proofs.Common.{◌∙◌, ap, sym, arith}
use Rattle.motion_history.specs.Entries.{HistoryState, cycle, cycles_of}
use Rattle.motion_history.specs.Kept.{state_of}
use Rattle.motion_history.proofs.KeptLemmas.{IsNext, has-room, has-cycle, cycle-next, cycle-then}
use Rattle.motion_history.specs.Stored.{last_number_of}
use Rattle.motion_history.specs.declared.entry.Stored.TheVariants as stored
use Rattle.motion_history.proofs.WholeLemmas.{from-next, last-more}
use Rattle.motion_history.proofs.history.History.record_cycle.Goals as goal

pub push_reserved-requires : goal.push_reserved-requires
push_reserved-requires c =
    let room : vec_len c.self.inside.stored < c.self.inside.room = has-room c.self.inside _ c.self.view_is c.requires.room in
    omega (arith, c.self.invariant.kept.stored_room)

axes : (c : goal.After-push_reserved) → length (state_of c.self.inside).rows ≡ c.self.inside.axes
axes c =
    ap (λ (s : HistoryState). length s.rows) c.self.view_is ∙ c.requires.axes ∙ ap (λ (s : HistoryState). s.axes) (sym c.self.view_is)

groups : (c : goal.After-push_reserved) → length (state_of c.self.inside).group_rows ≡ c.self.inside.groups
groups c =
    ap (λ (s : HistoryState). length s.group_rows) c.self.view_is ∙ c.requires.groups ∙
    ap (λ (s : HistoryState). s.groups) (sym c.self.view_is)

next : (c : goal.After-push_reserved) →
    IsNext c.self.inside (record c.self.inside { stored = c.push_reserved.new.self; made = c.self.inside.made + 1 })
    (cycle (cycles_of (state_of c.self.inside).entries + 1) (state_of c.self.inside).rows (state_of c.self.inside).group_rows)
next c =
    cycle-next c.self.inside c.push_reserved.new.self c.self.invariant.kept (has-room c.self.inside _ c.self.view_is c.requires.room)
    (has-cycle c.self.inside _ c.self.invariant.kept c.self.view_is c.requires.cycle) (axes c) (groups c)
    c.push_reserved.ensures.items c.push_reserved.ensures.len c.push_reserved.ensures.capacity

pub invariant_of-self : goal.invariant_of-self
invariant_of-self c = record {
  kept = (next c).kept;
  bits = record {
    calls = c.self.invariant.bits.calls;
    axis_rows = c.self.invariant.bits.axis_rows;
    group_rows = c.self.invariant.bits.group_rows;
  };
  last = ap last_number_of c.push_reserved.ensures.items ∙
      last-more c.self.inside.stored.items (stored.Cycle (c.self.inside.made + 1)) ∙ from-next c.self.inside.made;
}

pub returns : goal.returns
returns c = cycle-then c.self.inside c.push_reserved.new.self _ c.self.invariant.kept (axes c) (groups c) (next c) c.self.view_is
