-- The entry stands at the end, in room that was there.
use Rattle.std.specs.Prelude.{◌<◌, refl, vec_len}
use Rattle.std.proofs.Common.{◌∙◌, ap, arith}
use Rattle.motion_history.specs.Entries.{end_of}
use Rattle.motion_history.proofs.KeptLemmas.{IsNext, has-room, end-next, state-then}
use Rattle.motion_history.specs.Stored.{last_number_of}
use Rattle.motion_history.specs.declared.entry.Stored.TheVariants as stored
use Rattle.motion_history.proofs.WholeLemmas.{last-more}
use Rattle.motion_history.proofs.history.History.record_end.Goals as goal

pub push_reserved-requires : goal.push_reserved-requires
push_reserved-requires c =
    let room : vec_len c.self.inside.stored < c.self.inside.room = has-room c.self.inside _ c.self.view_is c.requires in
    omega (arith, c.self.invariant.kept.stored_room)

next : (c : goal.After-push_reserved) → IsNext c.self.inside (record c.self.inside { stored = c.push_reserved.new.self }) (end_of c.args.task)
next c =
    end-next c.self.inside c.push_reserved.new.self c.args.task c.self.invariant.kept (has-room c.self.inside _ c.self.view_is c.requires)
    c.push_reserved.ensures.items c.push_reserved.ensures.len c.push_reserved.ensures.capacity

pub invariant_of-self : goal.invariant_of-self
invariant_of-self c = record {
  kept = (next c).kept;
  bits = record {
    calls = c.self.invariant.bits.calls;
    axis_rows = c.self.invariant.bits.axis_rows;
    group_rows = c.self.invariant.bits.group_rows;
  };
  last = ap last_number_of c.push_reserved.ensures.items ∙ last-more c.self.inside.stored.items (stored.End c.args.task) ∙
      c.self.invariant.last;
}

pub returns : goal.returns
returns c = state-then c.self.inside _ _ _ (next c) refl refl c.self.view_is
