-- How many commands of an instance are active on a group, and how many wait: by each event of it.
-- for: owners_have_blocks
use Rattle.std.specs.Prelude.{◌≡◌, refl, ℕ, Bool, true, false, not, ◌&&◌, ℤ, if◌then◌else◌, Option, Some, None, Ok}
use Rattle.std.proofs.Common.{ap, sym, ◌∙◌}
use Rattle.buffer_modes.specs.Owners.{owner_count, owner_by}
use Rattle.buffer_modes.specs.Queue.{is_aborting, is_active_at_once}
use Rattle.plc_types.specs.declared.kind.BlockKind.{BlockKind}
use Rattle.plc_types.specs.declared.kind.BlockKind.TheVariants as kind
use Rattle.command_pool.specs.declared.wanted.Wanted.{Wanted}
use Rattle.fb_outputs.specs.InstanceState.{InstanceState}
use Rattle.group_core.specs.Calls as group_calls
use Rattle.group_core.specs.Cores as groups
use Rattle.group_core.specs.Refusals as group_refusals
use Rattle.group_core.specs.declared.look.GroupLook.{GroupLook}
use Rattle.group_core.specs.declared.reason.Reason as group_reason
use Rattle.motion_kernel.specs.calls.Calls.{answered_instance}
use Rattle.command_changes.proofs.group.Calls.{nobody_brakes}
use Rattle.command_core.proofs.Holders.{owner_counts}
use Rattle.motion_kernel.specs.owners.Commands.{active_shown}
use Rattle.motion_kernel.proofs.owners.active.AxisCounts.{not_at_once, active_by}

abbrev pub group_active_of : ℕ → groups.Core → ℕ
group_active_of k c = owner_count k (owner_by c.group.active)

-- an instance's own command of a group is active where it shows so
line_active : (k : ℕ) (members : GroupLook) (w : Wanted) (c : groups.Core) (waits once : Bool) →
    group_calls.waits_for_rest w c.path ≡ waits →
    is_active_at_once (group_calls.queue_in c) w ≡ once → w.owner ≡ Some k →
    group_active_of k c ≡ 0 →
    group_active_of k (if waits then group_calls.braked_for w c
    else (if once then groups.line_begun members members.setpoints w
    (group_calls.queued w c) else group_calls.queued w c))
    ≡ (if not waits && once then 1 else 0)
line_active k members w c true true r o e n = nobody_brakes k c.group.active
line_active k members w c true false r o e n = nobody_brakes k c.group.active
line_active k members w c false true r o e n = owner_counts k w.owner e
line_active k members w c false false r o e n =
    ap (λ a. owner_count k (owner_by a))
    (not_at_once c.group.active c.waiting w (is_aborting w.mode) refl o) ∙ n

group_own_admitted : (k : ℕ) (x : BlockKind) (members : GroupLook) (w : Wanted) (c : groups.Core)
    (i : InstanceState) → w.owner ≡ Some k → group_active_of k c ≡ 0 →
    group_active_of k (group_calls.admitted_by x members w c) ≡ active_shown
    (answered_instance x (Ok (group_calls.is_active_by x w c)) i).progress
group_own_admitted k kind.GroupEnable members w c i e n = n
group_own_admitted k kind.GroupDisable members w c i e n = n
group_own_admitted k kind.GroupReset members w c i e n = n
group_own_admitted k kind.GroupStop members w c i e n = owner_counts k w.owner e
group_own_admitted k kind.GroupHalt members w c i e n = owner_counts k w.owner e
group_own_admitted k kind.MoveLinearAbsolute members w c i e n =
    line_active k members w c (group_calls.waits_for_rest w c.path)
    (is_active_at_once (group_calls.queue_in c) w) refl refl e n
    ∙ sym (active_by kind.MoveLinearAbsolute (group_calls.is_line_active w c) i)
group_own_admitted k x members w c i e n = n ∙ sym (active_by x false i)

pub group_own_active : (k : ℕ) (w : Wanted) (jerk : ℤ) (members : GroupLook) (c : groups.Core)
    (i : InstanceState) → w.owner ≡ Some k → group_active_of k c ≡ 0 →
    group_active_of k (group_calls.commanded w jerk members c)
    ≡ active_shown (answered_instance w.kind (group_calls.answer_of w jerk members c) i).progress
unfolding group_calls.commanded group_calls.answer_of
group_own_active k w jerk members c i e n = by_verdict
    (group_refusals.refusal_of (group_calls.asked_in c w jerk members))
  where
    by_verdict : (o : Option group_reason.Reason) →
        group_active_of k (group_calls.commanded_by o members w c) ≡ active_shown
        (answered_instance w.kind (group_calls.answer_by o w c) i).progress
    by_verdict None = group_own_admitted k w.kind members w c i e n
    by_verdict (Some r) = n
