-- What a command asks of its parts, and what it keeps.
use Rattle.std.specs.Prelude.{◌≡◌, ℕ, Bool, ℤ, Option, length}
use Rattle.std.proofs.Common.{◌∙◌, sym, subst, arith}
use Rattle.std.proofs.lemmas.Int.{ints}
use Rattle.command_pool.specs.declared.wanted.Wanted.{Wanted}
use Rattle.group_core.specs.Calls.{asked_in}
use Rattle.group_core.specs.Cores.{Core}
use Rattle.group_core.specs.GroupKept.{IsCoreKept}
use Rattle.group_core.specs.Refusals.{limits_in, refusal_of}
use Rattle.group_core.specs.Seen.{core_at}
use Rattle.group_core.specs.Tracks.{is_moving}
use Rattle.group_core.specs.declared.look.GroupLook.{GroupLook}
use Rattle.group_core.specs.declared.reason.Reason.{Reason}
use Rattle.group_core.proofs.KeptCalls.{admitted-kept, may-admit}
use Rattle.group_core.proofs.calls.command.Goals as goal

-- what a command is asked of, as it was read
asked-as : (c : Core) (w : Wanted) (jerk j : ℤ) (members : GroupLook) (moves : Bool) (n : ℕ) (o : Option Reason) → moves ≡ is_moving c.path → n ≡ length c.waiting →
    j ≡ jerk → o ≡ refusal_of (record { group = c.group; moves = moves; waiting = n; wanted = w; jerk = j; members = members }) →
    o ≡ refusal_of (asked_in c w jerk members)
asked-as c w jerk j members moves n o e f g h = rw (e, f, g) at h

pub admit_command-requires-clause-may : goal.admit_command-requires-clause-may
admit_command-requires-clause-may c =
    let before : Core = core_at c.args.on.now c.args.pool.now c.args.list c.args.notes.now in
    let free = asked-as before c.args.wanted.now c.args.jerk _ c.args.members.now _ _ _ c.is_moving.ensures c.waiting.ensures.count (omega (arith, ints)) c.refusal_of.ensures in
    may-admit c.args.members.now c.args.wanted.now c.args.jerk before (record { look = c.requires.look; kept = c.requires.kept }) c.requires.made
    (sym free ∙ c.in_default.is)

pub returns-clause-kept : goal.returns-clause-kept
returns-clause-kept c =
    let before : Core = core_at c.args.on.now c.args.pool.now c.args.list c.args.notes.now in
    let free = asked-as before c.args.wanted.now c.args.jerk _ c.args.members.now _ _ _ c.is_moving.ensures c.waiting.ensures.count (omega (arith, ints)) c.refusal_of.ensures in
    subst (IsCoreKept (limits_in c.args.members.now)) (sym c.admit_command.ensures.after)
    (admitted-kept c.standing_is_kept.ensures.kept c.args.members.now c.args.wanted.now c.args.jerk before (record { look = c.requires.look; kept = c.requires.kept }) c.requires.made
    (sym free ∙ c.in_default.is))
