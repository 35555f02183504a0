-- A cycle, from what its parts made.
use Rattle.std.specs.Prelude.{◌≡◌, length, slice_set}
use Rattle.std.proofs.Common.{◌∙◌, sym, ap, subst, arith}
use Rattle.std.proofs.lemmas.List.{set-set}
use Rattle.command_pool.specs.Waiting.{queue_of}
use Rattle.group_core.specs.Cores.{Core, core_in}
use Rattle.group_core.specs.Cycles.{cycled}
use Rattle.group_core.specs.GroupKept.{IsCoreKept}
use Rattle.group_core.specs.Refusals.{limits_in}
use Rattle.group_core.specs.Seen.{core_at, on_path}
use Rattle.group_core.specs.declared.group.Group.{Group}
use Rattle.group_core.proofs.CycleMade.{cycle-made, may-step, read-few, read-kept, read-look, taker-may}
use Rattle.group_core.proofs.KeptCycles.{cycled-kept}
use Rattle.group_core.proofs.cycles.run.Goals as goal

pub advance-ending-requires : goal.advance-ending-requires
advance-ending-requires c =
    let members = c.args.members.now in
    let before : Core = core_at c.args.on.now c.args.pool.now c.args.list c.args.notes.now in
    let read : Core = core_in c.answer.new.group (on_path c.args.on.now.track) c.answer.new.pool c.args.list c.answer.new.notes in
    let same = c.answer.ensures.after (on_path c.args.on.now.track) in
    may-step (limits_in members) read (read-kept members.error (limits_in members) before read same c.requires.kept)

pub end_by-requires-clause-room : goal.end_by-requires-clause-room
end_by-requires-clause-room c =
    let before : Core = core_at c.args.on.now c.args.pool.now c.args.list c.args.notes.now in
    let read : Core = core_in c.answer.new.group (on_path c.args.on.now.track) c.answer.new.pool c.args.list c.answer.new.notes in
    let few = read-few c.ends_tell_their_owners.ensures.owners c.args.members.now.error before read (c.answer.ensures.after (on_path c.args.on.now.track)) in
    let none : length c.args.notes.now ≡ 0 = ap length c.requires.room in
    omega (arith, few, none, c.waiting.ensures.few, c.waiting.ensures.count)

pub end_by-requires-clause-waiting : goal.end_by-requires-clause-waiting
end_by-requires-clause-waiting c =
    let members = c.args.members.now in
    let before : Core = core_at c.args.on.now c.args.pool.now c.args.list c.args.notes.now in
    let read : Core = core_in c.answer.new.group (on_path c.args.on.now.track) c.answer.new.pool c.args.list c.answer.new.notes in
    let same = c.answer.ensures.after (on_path c.args.on.now.track) in
    taker-may (record { standing = c.standing_is_kept.ensures.kept; taken = c.taken_steps_keep.ensures.kept; slower = c.braking_steps_are_only_cut.ensures.slower })
    members read _ _ _ (read-look members before read same c.requires.look) (read-kept members.error (limits_in members) before read same c.requires.kept)
    c.advance-ending.ensures.places (ap (λ (g : Group). g.state) c.advance-ending.ensures.group)

made : (c : goal.After-leave_path) → core_at c.leave_path.new.on c.end_by.new.pool c.args.list c.end_by.new.notes ≡ cycled c.args.members.now
    (core_at c.args.on.now c.args.pool.now c.args.list c.args.notes.now)
made c =
    cycle-made c.args.members.now (core_at c.args.on.now c.args.pool.now c.args.list c.args.notes.now) c.args.list c.answer.new.pool c.end_by.new.pool c.answer.new.notes
    c.end_by.new.notes c.answer.new.group c.advance-ending.new.on.group c.end_by.new.on.group c.leave_stopping.new.on.group c.leave_path.new.on.group
    (on_path c.advance-ending.new.on.track) (on_path c.end_by.new.on.track) (on_path c.leave_stopping.new.on.track) (on_path c.leave_path.new.on.track)
    c.advance-ending.result c.advance-ending.new.setpoints (c.answer.ensures.after (on_path c.args.on.now.track)) c.advance-ending.ensures.group c.advance-ending.ensures.path
    c.advance-ending.ensures.ending c.advance-ending.ensures.places c.end_by.ensures.after c.leave_stopping.ensures.group c.leave_stopping.ensures.path
    c.leave_path.ensures.group c.leave_path.ensures.path

pub returns-clause-after : goal.returns-clause-after
returns-clause-after c = made c

pub returns-clause-others : goal.returns-clause-others
returns-clause-others c =
    c.end_by.ensures.others
    ∙ ap (λ pool. slice_set pool c.args.list (queue_of c.end_by.new.pool c.args.list)) c.answer.ensures.others
    ∙ set-set c.args.pool.now c.args.list _ _

pub returns-clause-kept : goal.returns-clause-kept
returns-clause-kept c =
    subst (IsCoreKept (limits_in c.args.members.now)) (sym (made c))
    (cycled-kept (record { standing = c.standing_is_kept.ensures.kept; taken = c.taken_steps_keep.ensures.kept; slower = c.braking_steps_are_only_cut.ensures.slower })
    c.args.members.now (core_at c.args.on.now c.args.pool.now c.args.list c.args.notes.now) c.requires.look c.requires.kept)
