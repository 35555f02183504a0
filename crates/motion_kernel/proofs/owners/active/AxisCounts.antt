-- How many commands of an instance are active on an axis, and how many wait: by each event of it.
-- for: owners_have_blocks
use Rattle.std.specs.Prelude.{◌≡◌, refl, ℕ, Bool, true, false, ◌||◌, is_none, if◌then◌else◌, Option, Some, None, Ok, List, []}
use Rattle.std.proofs.Common.{ap, sym, ◌∙◌}
use Rattle.axis_core.specs.Calls as axis_calls
use Rattle.axis_core.specs.Calls.{core_after_admission, core_after_command, core_after_joining, core_after_leaving, core_after_verdict, core_entered_in, core_with_queued, queue_in}
use Rattle.axis_core.specs.Cores.{Core, axis_under, axis_under_by}
use Rattle.axis_core.specs.Profiles.{profile_of}
use Rattle.axis_core.specs.declared.profile.Entry.{Entry}
use Rattle.axis_core.specs.declared.profile.Entry.TheVariants.{Awaits, Joins, Leaves}
use Rattle.axis_core.specs.Refusals as axis_refusals
use Rattle.axis_core.specs.Refusals.{Asked}
use Rattle.axis_core.specs.blocks.Moves.{known_target_of, with_target}
use Rattle.axis_core.specs.declared.reason.Reason as axis_reason
use Rattle.buffer_modes.specs.Owners.{owner_count, owner_by}
use Rattle.buffer_modes.specs.Queue.{admitted, behind, is_aborting, is_active_at_once}
use Rattle.command_pool.specs.Waiting.{last_of}
use Rattle.plc_types.specs.declared.kind.BlockKind.{BlockKind}
use Rattle.command_pool.specs.declared.wanted.Wanted.{Wanted}
use Rattle.fb_outputs.specs.InstanceState.{InstanceState}
use Rattle.motion_kernel.specs.calls.Asking.{is_done_at_once}
use Rattle.motion_kernel.specs.calls.Calls.{answered_instance}
use Rattle.motion_kernel.proofs.Sizes.{by_if}
use Rattle.motion_kernel.specs.owners.Commands.{active_shown}
use Rattle.buffer_modes.proofs.Owners.{nobody}
use Rattle.command_core.proofs.Holders.{owner_counts}

-- whether an instance has the active command, and how many of its commands wait, a reset among them
abbrev pub active_of : ℕ → Core → ℕ
active_of k c = owner_count k (owner_by c.axis.active)

-- an instance's own command is active where it shows so
pub not_at_once : (active : Option Wanted) (ws : List Wanted) (w : Wanted) (aborts : Bool) →
    is_aborting w.mode ≡ aborts →
    is_aborting w.mode || is_none active ≡ false →
    (admitted (record { active = active; waiting = ws }) w).active ≡ active
not_at_once active ws w true e n = absurd (let m = ap (λ b. b || is_none active) (sym e) ∙ n in cc)
not_at_once None ws w false e n = absurd (let m = ap (λ b. b || true) (sym e) ∙ n in cc)
not_at_once (Some a) ws w false e n = ap
    (λ (b : Bool). (if b then record { active = Some w; waiting = [] } else behind
    (Some a) ws w).active) e

pub active_by : (x : BlockKind) (b : Bool) (i : InstanceState) → active_shown
    (answered_instance x (Ok b) i).progress ≡ (if b then 1 else 0)
active_by x true i = refl
active_by x false i =
    by_if (λ (j : InstanceState). active_shown j.progress ≡ 0) (is_done_at_once x) _ _ refl refl

joined_active : (k : ℕ) (w : Wanted) (c : Core) (b : Bool) → is_active_at_once (queue_in c) w ≡ b →
    w.owner ≡ Some k → active_of k c ≡ 0 →
    active_of k (core_after_joining w c) ≡ (if b then 1 else 0)
unfolding axis_under_by
joined_active k w c true e own none =
    ap (λ x. active_of k
    (if x then record (core_with_queued w c) {
      axis = axis_under w
          (core_with_queued w c).axis;
    } else core_with_queued w c)) e
    ∙ owner_counts k w.owner own
joined_active k w c false e own none =
    ap (λ x. active_of k
    (if x then record (core_with_queued w c) {
      axis = axis_under w
          (core_with_queued w c).axis;
    } else core_with_queued w c)) e
    ∙ ap (λ a. owner_count k (owner_by a))
    (not_at_once c.axis.active c.waiting w (is_aborting w.mode) refl e) ∙ none

left_active : (k : ℕ) (w : Wanted) (c : Core) → active_of k (core_after_leaving w c) ≡ 0
unfolding axis_under_by
left_active k w c = nobody k

own_admitted : (k : ℕ) (x : BlockKind) (w v : Wanted) (c : Core) (i : InstanceState) →
    v.mode ≡ w.mode → v.owner ≡ Some k → active_of k c ≡ 0 →
    active_of k (core_after_admission x v c) ≡ active_shown
    (answered_instance x (Ok (axis_calls.is_active_by x w c)) i).progress
own_admitted k x w v c i m e n = by (profile_of x).entry
  where
    by : (y : Entry) → active_of k (core_entered_in y v c) ≡ active_shown
        (answered_instance x (Ok (axis_calls.is_active_in y w c)) i).progress
    by Awaits = n ∙ sym (active_by x false i)
    by Leaves = left_active k v c ∙ sym (active_by x false i)
    by Joins = joined_active k v c (is_active_at_once (queue_in c) w)
        (ap (λ y. is_aborting y || is_none c.axis.active) m) e n
        ∙ sym (active_by x (is_active_at_once (queue_in c) w) i)

pub own_active : (k : ℕ) (q : Asked) (c : Core) (i : InstanceState) → q.wanted.owner ≡ Some k →
    active_of k c ≡ 0 →
    active_of k (core_after_command q c) ≡ active_shown
    (answered_instance q.wanted.kind (axis_calls.answer_of q c) i).progress
unfolding core_after_command axis_calls.answer_of
own_active k q c i e n = by_verdict (axis_refusals.refusal_of q)
  where
    by_verdict : (o : Option axis_reason.Reason) →
        active_of k (core_after_verdict o q.wanted c) ≡ active_shown
        (answered_instance q.wanted.kind (axis_calls.answer_by o q.wanted c) i).progress
    by_verdict None = own_admitted k q.wanted.kind q.wanted
        (with_target (known_target_of c.axis (last_of c.waiting) q.wanted) q.wanted) c i refl e n
    by_verdict (Some r) = n
