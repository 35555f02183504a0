-- A line that waits for the path to come to rest.
use Rattle.std.specs.Prelude.{◌≡◌, true, refl}
use Rattle.std.proofs.Common.{◌∙◌, sym}
use Rattle.command_pool.specs.declared.wanted.Wanted.{Wanted}
use Rattle.group_core.specs.Calls.{braked_for, line_joined, waits_for_rest}
use Rattle.group_core.specs.Cores.{Core}
use Rattle.group_core.specs.Seen.{core_at, on_path}
use Rattle.group_core.specs.declared.look.GroupLook.{GroupLook}
use Rattle.group_core.proofs.calls.join_line.Goals as goal

-- a line that waits is joined so
braked-joined : (members : GroupLook) (w : Wanted) (c : Core) → waits_for_rest w c.path ≡ true → braked_for w c ≡ line_joined members w c
braked-joined members w c h = rw h refl

pub returns-then-waits_for_rest-clause-after : goal.returns-then-waits_for_rest-clause-after
returns-then-waits_for_rest-clause-after c =
    c.brake_for.ensures.after (on_path c.args.on.now.track)
    ∙ braked-joined c.args.members.now c.args.wanted.now (core_at c.args.on.now c.args.pool.now c.args.list c.args.notes.now) (sym c.waits_for_rest.ensures ∙ c.if-waits_for_rest.true)
