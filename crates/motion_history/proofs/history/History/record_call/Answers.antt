-- The call stands at the end of the calls, and its entry at the end of the entries.
use Rattle.std.specs.Prelude.{◌<◌, refl, vec_len}
use Rattle.std.proofs.Common.{◌∙◌, ap, arith}
use Rattle.motion_history.specs.Entries.{call}
use Rattle.motion_history.proofs.KeptLemmas.{IsNext, has-room, call-next, state-then}
use Rattle.motion_history.specs.Bits.{HasCallBits}
use Rattle.motion_history.specs.Stored.{last_number_of}
use Rattle.motion_history.specs.declared.entry.CallMade.{CallMade}
use Rattle.motion_history.specs.declared.entry.Stored.TheVariants as stored
use Rattle.motion_history.proofs.WholeLemmas.{each-more, last-more}
use Rattle.motion_history.proofs.history.History.record_call.Goals as goal

pub push_reserved-requires : goal.push_reserved-requires
push_reserved-requires c =
    let room : vec_len c.self.inside.stored < c.self.inside.room = has-room c.self.inside _ c.self.view_is c.requires in
    omega (arith, c.self.invariant.kept.calls, c.self.invariant.kept.calls_room)

pub push_reserved-requires-2 : goal.push_reserved-requires-2
push_reserved-requires-2 c =
    let room : vec_len c.self.inside.stored < c.self.inside.room = has-room c.self.inside _ c.self.view_is c.requires in
    omega (arith, c.self.invariant.kept.stored_room)

next : (c : goal.After-push_reserved-2) →
    IsNext c.self.inside (record c.self.inside { stored = c.push_reserved-2.new.self; calls = c.push_reserved.new.self })
    (call c.args.instance c.args.inputs.now c.args.reply.now)
next c =
    call-next c.self.inside c.push_reserved-2.new.self c.push_reserved.new.self c.len-place.result
    (record { instance = c.args.instance; inputs = c.args.inputs.now; reply = c.args.reply.now }) c.self.invariant.kept
    (has-room c.self.inside _ c.self.view_is c.requires)
    (record {
      entry = c.push_reserved-2.ensures.items;
      entry_len = c.push_reserved-2.ensures.len;
      entry_room = c.push_reserved-2.ensures.capacity;
      call_items = c.push_reserved.ensures.items;
      call_len = c.push_reserved.ensures.len;
      call_room = c.push_reserved.ensures.capacity;
      last = c.len-place.ensures;
    })

pub invariant_of-self : goal.invariant_of-self
invariant_of-self c = record {
  kept = (next c).kept;
  bits = record {
    calls = each-more (λ (m : CallMade). HasCallBits m.inputs m.reply) c.self.inside.calls.items c.push_reserved.new.self.items _
        c.push_reserved.ensures.items c.self.invariant.bits.calls c.call_has_bits.ensures;
    axis_rows = c.self.invariant.bits.axis_rows;
    group_rows = c.self.invariant.bits.group_rows;
  };
  last = ap last_number_of c.push_reserved-2.ensures.items ∙ last-more c.self.inside.stored.items (stored.Call c.len-place.result) ∙
      c.self.invariant.last;
}

pub returns : goal.returns
returns c = state-then c.self.inside _ _ _ (next c) refl refl c.self.view_is
