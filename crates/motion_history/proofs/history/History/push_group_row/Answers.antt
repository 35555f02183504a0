-- The row stands after those that the cycle in the making has.
use Rattle.std.specs.Prelude.{◌∷◌, ◌++◌, []}
use Rattle.std.proofs.Common.{◌∙◌, ap}
use Rattle.motion_history.specs.Entries.{HistoryState}
use Rattle.motion_history.specs.Kept.{state_of}
use Rattle.motion_history.proofs.KeptLemmas.{HasRow, few-group_rows, has-cycle, row-room, group_row-next}
use Rattle.motion_history.specs.Bits.{HasGroupRowBits}
use Rattle.motion_history.proofs.WholeLemmas.{each-more}
use Rattle.motion_history.proofs.history.History.push_group_row.Goals as goal

pub push_reserved-requires : goal.push_reserved-requires
push_reserved-requires c =
    let h = c.self.inside in
    row-room h.group_rows h.made h.most h.groups c.self.invariant.kept.group_rows (has-cycle h _ c.self.invariant.kept c.self.view_is c.requires.cycle)
    c.self.invariant.kept.group_room (few-group_rows h _ c.self.view_is c.requires.room)

next : (c : goal.After-push_reserved) → HasRow c.self.inside (record c.self.inside { group_rows = c.push_reserved.new.self })
    (state_of c.self.inside).rows ((state_of c.self.inside).group_rows ++ c.args.row ∷ [])
next c =
    group_row-next c.self.inside c.push_reserved.new.self c.args.row c.self.invariant.kept c.push_reserved.ensures.items c.push_reserved.ensures.len
    c.push_reserved.ensures.capacity

pub invariant_of-self : goal.invariant_of-self
invariant_of-self c = record {
  kept = (next c).kept;
  bits = record {
    calls = c.self.invariant.bits.calls;
    axis_rows = c.self.invariant.bits.axis_rows;
    group_rows = each-more HasGroupRowBits c.self.inside.group_rows.items c.push_reserved.new.self.items c.args.row
        c.push_reserved.ensures.items c.self.invariant.bits.group_rows c.group_row_has_bits.ensures;
  };
  last = c.self.invariant.last;
}

pub returns : goal.returns
returns c = (next c).state ∙ ap (λ (s : HistoryState). record s { group_rows = s.group_rows ++ c.args.row ∷ [] }) c.self.view_is
