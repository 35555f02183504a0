-- What a call changes of the commands of an axis, and what becomes of the active one.
-- for: axis_fates_are_told, axis_changes_are_made
use Rattle.std.specs.Prelude.{◌≡◌, refl, ℕ, Bool, true, false, Option, Some, None, List, [], ◌∷◌, ℤ, if◌then◌else◌}
use Rattle.std.proofs.Common.{subst, ◌∙◌, ap, sym, arith}
use Rattle.axis_core.specs.Calls.{axis_without_owner, core_after_command, core_after_disabling, core_after_joining, core_after_leaving, core_after_power, core_after_verdict, core_entered_in, core_with_queued, queue_in}
use Rattle.axis_core.specs.Cores.{Core, axis_under, axis_under_by, core_after_error}
use Rattle.axis_core.specs.Owners.{core_without_owner, owner_brought, owner_brought_in}
use Rattle.axis_core.specs.Profiles.{profile_of}
use Rattle.axis_core.specs.Refusals.{Asked, refusal_of}
use Rattle.axis_core.specs.blocks.Halts.{hold_by}
use Rattle.axis_core.specs.blocks.Moves.{known_target_of, with_target}
use Rattle.axis_core.specs.blocks.Power.{axis_with_wish}
use Rattle.axis_core.specs.blocks.Path.{axis_on_path}
use Rattle.axis_core.specs.declared.profile.Entry.{Entry}
use Rattle.axis_core.specs.declared.profile.Entry.TheVariants.{Joins, Leaves, Awaits}
use Rattle.axis_core.specs.declared.reason.Reason.{Reason}
use Rattle.axis_state.specs.States.{is_error_stop}
use Rattle.buffer_modes.specs.Queue.{is_active_at_once}
use Rattle.buffer_modes.specs.declared.reset.PendingReset.{PendingReset}
use Rattle.command_core.specs.Changes.{Change, all_changed, holds, joins, replaced, resets, awaits, ends, AllFit}
use Rattle.command_core.specs.CommandState.{CommandState}
use Rattle.command_core.specs.Laws.{AreInOrder}
use Rattle.command_pool.specs.Waiting.{last_of}
use Rattle.plc_types.specs.declared.kind.BlockKind.{BlockKind}
use Rattle.command_pool.specs.declared.wanted.Wanted.{Wanted}
use Rattle.command_changes.specs.Failing.{failing}
use Rattle.command_changes.specs.Axis.{asked_changes, command_state_of, command_changes, entered_changes, is_stop, joined_changes, power_changes}
use Rattle.command_changes.proofs.Choices.{either, by_if}
use Rattle.axis_core.specs.declared.axis.Axis.{Axis}
use Rattle.buffer_modes.specs.Owners.{owner_count, IsSame}
use Rattle.command_core.specs.Calls.{IsCall}
use Rattle.buffer_modes.proofs.Owners.{nobody}
use Rattle.axis_core.specs.Fates.{asked_fate, command_fate, entered_fate, joined_fate, power_fate}
use Rattle.axis_core.specs.blocks.Gear.{velocity_command}
use Rattle.buffer_modes.specs.Fates.{Fate, goes_on}
use Rattle.buffer_modes.specs.Laws.{AreTakenAway}
use Rattle.axis_core.specs.AxisKept.{IsCoreKept}
use Rattle.axis_core.specs.Demands.{IsMade, asked_in}
use Rattle.axis_core.specs.Kept.{MayEnter}
use Rattle.axis_core.proofs.MayAdmit.{may-admit}
use Rattle.command_core.specs.Changes as change
use Rattle.command_core.specs.CommandState as command_state
use Rattle.command_pool.specs.declared.ending.Finish.TheVariants as finish
use Rattle.plc_types.specs.declared.kind.BlockKind.TheVariants as kind
use Rattle.buffer_modes.specs.Fates as fates
use Rattle.command_changes.proofs.Alike.{Called, Cycled, same_reset}
use Rattle.command_changes.proofs.Fates.{single}

-- these changes lead from one core to another
abbrev pub Makes : Core → List Change → Core → Type 0
Makes c xs d = command_state_of d ≡ all_changed xs (command_state_of c)

-- who holds Stopping by a command
pub holder : (k : BlockKind) (w : Wanted) → hold_by k w.owner ≡ change.hold_by (is_stop k) (Some w)
holder kind.Stop w = refl
holder _ w = refl

pub failed_makes : (n : ℕ) (c : Core) → Makes c (failing n) (core_after_error n c)
unfolding core_after_error
failed_makes n c = refl

-- what a call makes of the commands
abbrev Calls : Core → Option ℕ → Fate → List Change → Core → Type 0
Calls c owner f xs d = Called (command_state_of c) owner f xs (command_state_of d)

left_called : (w : Wanted) (c d : Core) → Makes c (replaced finish.Aborted (Some w) [] ∷ holds false ∷ []) d → w.owner ≡ None →
    Calls c None (fates.replaced finish.Aborted c.axis.active (Some w)) (replaced finish.Aborted (Some w) [] ∷ holds false ∷ []) d
left_called w c d made nobodys = record {
  makes = made;
  brings = λ k. let z = nobody k in let o = ap (owner_count k) nobodys in omega arith;
  call = tt;
  fated = single (replaced finish.Aborted (Some w) []) (holds false ∷ []) (command_state_of c) ((λ d. refl), tt);
}

with_brings : (x : Entry) (t : Option ℤ) (w : Wanted) → owner_brought_in x (with_target t w) ≡ owner_brought_in x w
with_brings Leaves t w = refl
with_brings _ t w = refl

module _ (order : AreInOrder) where
  -- a command that is active at once
  entered_makes : (w : Wanted) (c : Core) → is_active_at_once (queue_in c) w ≡ true →
      Makes c (joins w ∷ holds (is_stop w.kind) ∷ []) (record (core_with_queued w c) { axis = axis_under w (core_with_queued w c).axis })
  unfolding axis_under_by
  entered_makes w c h =
      let after : CommandState = all_changed (joins w ∷ []) (command_state_of c) in
      ap (λ o. record after { active = Some w; hold = o }) (holder w.kind w)
      ∙ ap (λ o. record after { active = o; hold = change.hold_by (is_stop w.kind) o }) (sym (order.at_once w (command_state_of c) h))

  joined_called : (w : Wanted) (c : Core) → Calls c w.owner (joined_fate w c) (joined_changes w c) (core_after_joining w c)
  joined_called w c =
      let s : CommandState = command_state_of c in
      either (Calls c w.owner (joined_fate w c)) (is_active_at_once (queue_in c) w) (joins w ∷ holds (is_stop w.kind) ∷ []) (joins w ∷ []) _ _
      (λ h. record { makes = entered_makes w c h; brings = λ k. omega arith; call = tt; fated = single (joins w) (holds (is_stop w.kind) ∷ []) s ((λ d. refl), tt) })
      (λ h. record { makes = refl; brings = λ k. omega arith; call = tt; fated = single (joins w) [] s tt })

  entered_called : (x : Entry) (w : Wanted) (c : Core) → Calls c (owner_brought_in x w) (entered_fate x w c) (entered_changes x w c) (core_entered_in x w c)
  unfolding axis_under_by
  entered_called Awaits w c =
      record { makes = by c.axis.reset refl; brings = λ k. omega arith; call = tt; fated = single (awaits w.owner) [] (command_state_of c) tt }
    where
      by : (o : Option PendingReset) → c.axis.reset ≡ o → Makes c (entered_changes Awaits w c) (core_entered_in Awaits w c)
      by None e = rw e refl
      by (Some p) e = rw e refl
  entered_called Leaves w c = left_called (velocity_command w c.axis) c (core_after_leaving w c) refl refl
  entered_called Joins w c = joined_called w c

  asked_called : (r : Option Reason) (w : Wanted) (c : Core) → Calls c (owner_brought r w) (asked_fate r w c) (asked_changes r w c) (core_after_verdict r w c)
  asked_called None w c =
      let target = known_target_of c.axis (last_of c.waiting) w in
      let v = with_target target w in
      let x = (profile_of w.kind).entry in
      subst (λ o. Calls c o (entered_fate x v c) (entered_changes x v c) (core_entered_in x v c)) (with_brings x target w) (entered_called x v c)
  asked_called (Some reason) w c = record { makes = refl; brings = λ k. let z = nobody k in omega arith; call = tt; fated = record { ends = refl; begins = refl } }

  pub command_called : (q : Asked) (c : Core) → Calls c (owner_brought (refusal_of q) q.wanted) (command_fate q c) (command_changes q c) (core_after_command q c)
  unfolding command_changes core_after_command command_fate
  command_called q c = asked_called (refusal_of q) q.wanted c

pub power_cycles : (enable : Bool) (c : Core) → Cycled (command_state_of c) (power_fate enable c) (power_changes enable c) (command_state_of (core_after_power enable c))
unfolding power_fate power_changes core_after_power
power_cycles true c = record { makes = refl; none = tt; fated = record { ends = refl; begins = refl } }
power_cycles false c = by (is_error_stop c.axis.state)
  where
    by : (b : Bool) → Cycled (command_state_of c) (if b then goes_on else fates.replaced finish.Aborted c.axis.active None)
        (if b then [] else replaced finish.Aborted None [] ∷ holds false ∷ []) (command_state_of (if b then record c { axis = axis_with_wish false c.axis } else core_after_disabling (record c { axis = axis_with_wish false c.axis })))
    by true = record { makes = refl; none = tt; fated = record { ends = refl; begins = refl } }
    by false = record {
      makes = refl;
      none = ((refl, refl), (tt, tt));
      fated = single (replaced finish.Aborted None []) (holds false ∷ []) (command_state_of c) ((λ d. refl), tt);
    }

pub power_call : (enable : Bool) (c : Core) → IsCall (power_changes enable c)
unfolding power_changes
power_call true c = tt
power_call false c = by_if IsCall (is_error_stop c.axis.state) [] _ (λ h. tt) (λ h. tt)

-- an owner that is taken away
pub detach_makes : (owner : ℕ) (c : Core) → command_state_of (core_without_owner owner c) ≡ command_state.disowned owner (command_state_of c)
unfolding axis_without_owner
detach_makes owner c = rw (same_reset owner c.axis.reset) refl

-- a path changes nothing
pub path_makes : (on : Bool) (c : Core) → command_state_of (record c { axis = axis_on_path on c.axis }) ≡ command_state_of c
unfolding axis_on_path
path_makes on c = refl

pub detach_fated : AreTakenAway → (owner : ℕ) (a : Axis) → IsSame a.active (axis_without_owner owner a).active
unfolding axis_without_owner
detach_fated taken owner a = taken.same owner a.active

pub path_fated : (on : Bool) (a : Axis) → (axis_on_path on a).active ≡ a.active
unfolding axis_on_path
path_fated on a = refl

-- a command finds its place
entered_fits : (x : Entry) (w : Wanted) (c : Core) → MayEnter x w c → AllFit (entered_changes x w c) (command_state_of c)
entered_fits Awaits w c m = (tt, tt)
entered_fits Leaves w c m = (omega arith, (tt, tt))
entered_fits Joins w c m =
    by_if (λ (xs : List Change). AllFit xs (command_state_of c)) (is_active_at_once (queue_in c) w) _ _ (λ h. (m.place, (tt, tt))) (λ h. (m.place, tt))

pub command_fits : (c : Core) (number : ℕ) (w : Wanted) (jerk : ℤ) (held : Bool) (tables : ℕ) → IsCoreKept c → IsMade w →
    AllFit (command_changes (asked_in c number w jerk held tables) c) (command_state_of c)
unfolding command_changes
command_fits c number w jerk held tables k m =
    elim (refusal_of (asked_in c number w jerk held tables)) as
    (λ r. refusal_of (asked_in c number w jerk held tables) ≡ r → AllFit (asked_changes r w c) (command_state_of c)) [
      | None ↦ λ h. entered_fits (profile_of w.kind).entry (with_target (known_target_of c.axis (last_of c.waiting) w) w) c (may-admit c number w jerk held tables k m h)
      | Some r ↦ λ h. tt
    ] refl
