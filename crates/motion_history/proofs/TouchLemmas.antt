-- A history whose room was touched is the one that it was.
-- for: touch
use Rattle.std.specs.Prelude.{◌≡◌, ◌≤◌, ◌*◌, drop, vec_capacity, vec_len}
use Rattle.std.proofs.Common.{Vec, Global, ◌∙◌, ap, arith, sym}
use Rattle.plc_types.specs.declared.axis.AxisRow.{AxisRow}
use Rattle.plc_types.specs.declared.group.GroupRow.{GroupRow}
use Rattle.motion_history.specs.declared.entry.CallMade.{CallMade}
use Rattle.motion_history.specs.declared.entry.Stored.{Stored}
use Rattle.motion_history.specs.declared.history.History.TheInside.{Inside}
use Rattle.motion_history.specs.Entries.{HistoryState, cycles_of}
use Rattle.motion_history.specs.Kept.{IsKept, IsWhole, state_of}
use Rattle.motion_history.specs.Stored.{entries_of, last_number_of}

-- an array that holds what another did, in no less room
pub record IsSame {X : Type 0} (old new : Vec X Global) : Type 0 where
  pub items : new.items ≡ old.items
  pub len : vec_len new ≡ vec_len old
  pub room : vec_capacity old ≤ vec_capacity new

-- four arrays that hold what those of a history did
pub record AreSame (h : Inside) (entries : Vec Stored Global) (calls : Vec CallMade Global) (axes : Vec AxisRow Global) (groups : Vec GroupRow Global) : Type 0 where
  pub entries_same : IsSame h.stored entries
  pub calls_same : IsSame h.calls calls
  pub axes_same : IsSame h.axis_rows axes
  pub groups_same : IsSame h.group_rows groups

-- the history with these arrays
abbrev pub touched : Inside → Vec Stored Global → Vec CallMade Global → Vec AxisRow Global → Vec GroupRow Global → Inside
touched h entries calls axes groups = record h { stored = entries; calls = calls; axis_rows = axes; group_rows = groups }

-- contracts see the same
pub state-touched : (h : Inside) (entries : Vec Stored Global) (calls : Vec CallMade Global) (axes : Vec AxisRow Global) (groups : Vec GroupRow Global) →
    AreSame h entries calls axes groups → state_of (touched h entries calls axes groups) ≡ state_of h
state-touched h entries calls axes groups same = λ i. record {
  axes = h.axes;
  groups = h.groups;
  room = h.room;
  cycles = h.most;
  entries = entries_of (record {
    axes = h.axes;
    groups = h.groups;
    calls = same.calls_same.items i;
    axis_rows = same.axes_same.items i;
    group_rows = same.groups_same.items i;
  }) (same.entries_same.items i);
  rows = drop (h.made * h.axes) (same.axes_same.items i);
  group_rows = drop (h.made * h.groups) (same.groups_same.items i);
}

-- its arrays are in step as before
kept-touched : (h : Inside) (entries : Vec Stored Global) (calls : Vec CallMade Global) (axes : Vec AxisRow Global) (groups : Vec GroupRow Global) →
    AreSame h entries calls axes groups → IsKept h → IsKept (touched h entries calls axes groups)
kept-touched h entries calls axes groups same k = record {
  stored = omega (arith, k.stored, same.entries_same.len);
  stored_room = omega (arith, k.stored_room, same.entries_same.room);
  calls = omega (arith, k.calls, same.calls_same.len, same.entries_same.len);
  calls_room = omega (arith, k.calls_room, same.calls_same.room);
  axis_rows = omega (arith, k.axis_rows, same.axes_same.len);
  axis_room = omega (arith, k.axis_room, same.axes_same.room);
  group_rows = omega (arith, k.group_rows, same.groups_same.len);
  group_room = omega (arith, k.group_room, same.groups_same.room);
  made = k.made;
  cycles = k.cycles ∙ ap (λ (s : HistoryState). cycles_of s.entries) (sym (state-touched h entries calls axes groups same));
  numbers = rw (same.calls_same.len, same.entries_same.items) k.numbers;
}

-- it is whole as before
pub whole-touched : (h : Inside) (entries : Vec Stored Global) (calls : Vec CallMade Global) (axes : Vec AxisRow Global) (groups : Vec GroupRow Global) →
    AreSame h entries calls axes groups → IsWhole h → IsWhole (touched h entries calls axes groups)
whole-touched h entries calls axes groups same w = record {
  kept = kept-touched h entries calls axes groups same w.kept;
  bits = record {
    calls = rw same.calls_same.items w.bits.calls;
    axis_rows = rw same.axes_same.items w.bits.axis_rows;
    group_rows = rw same.groups_same.items w.bits.group_rows;
  };
  last = ap last_number_of same.entries_same.items ∙ w.last;
}
