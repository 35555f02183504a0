-- What a call changes of the commands of a group, and what becomes of the active one.
-- for: group_fates_are_told, group_changes_are_made
use Rattle.std.specs.Prelude.{◌≡◌, refl, ℕ, Bool, true, false, not, ◌&&◌, nat_eq, ℤ, Option, Some, None, is_some, List, [], ◌∷◌, if◌then◌else◌, length}
use Rattle.std.proofs.Common.{◌∙◌, ap, sym, arith}
use Rattle.buffer_modes.specs.Queue.{is_active_at_once, is_aborting, is_full}
use Rattle.buffer_modes.specs.declared.reset.PendingReset.{PendingReset}
use Rattle.command_core.specs.Changes.{Change, all_changed, holds, joins, replaced, resets, awaits, AllFit}
use Rattle.command_core.specs.CommandState.{CommandState}
use Rattle.command_core.specs.Laws.{AreInOrder}
use Rattle.plc_types.specs.declared.kind.BlockKind.{BlockKind}
use Rattle.command_pool.specs.declared.wanted.Wanted.{Wanted}
use Rattle.group_core.specs.Calls.{admitted_by, asked_in, braked_for, commanded, commanded_by, disowned, group_without, halted, line_joined, powered_off, queue_in, queued, waits_for_rest}
use Rattle.group_core.specs.Cores.{Core, failed, line_begun}
use Rattle.group_core.specs.Refusals as refusals
use Rattle.group_core.specs.Refusals.{refusal_of, states_in}
use Rattle.group_core.specs.States.{may_fail}
use Rattle.group_core.specs.blocks.Halts.{hold_by}
use Rattle.group_core.specs.declared.group.Group.{Group}
use Rattle.group_core.specs.declared.look.GroupLook.{GroupLook}
use Rattle.group_core.specs.declared.reason.Reason.{Reason}
use Rattle.command_changes.specs.Failing.{failing}
use Rattle.command_changes.specs.Group.{admitted_changes, asked_changes, command_state_of, command_changes, halted_changes, is_stop, joined_changes, line_changes, power_off_changes}
use Rattle.command_changes.proofs.Choices.{either, by_if}
use Rattle.buffer_modes.specs.Owners.{owner_count, owner_by, IsSame}
use Rattle.command_core.specs.Calls.{IsCall}
use Rattle.group_core.specs.blocks.Line.{braking_for}
use Rattle.buffer_modes.proofs.Owners.{nobody}
use Rattle.group_core.specs.Fates.{admitted_fate, asked_fate, command_fate, line_fate, power_off_fate}
use Rattle.buffer_modes.specs.Fates.{Fate, goes_on}
use Rattle.buffer_modes.specs.Laws.{AreTakenAway}
use Rattle.group_core.specs.Kinds.{tests_of}
use Rattle.group_core.proofs.KeptCalls.{of_kind}
use Rattle.group_core.proofs.NoneHolds.{NoneHolds, none-holds}
use Rattle.command_core.specs.Changes as change
use Rattle.command_core.specs.CommandState as command_state
use Rattle.command_pool.specs.declared.ending.Finish.TheVariants as finish
use Rattle.plc_types.specs.declared.kind.BlockKind.TheVariants as kind
use Rattle.group_core.specs.Owners as owners
use Rattle.buffer_modes.specs.Fates as fates
use Rattle.command_changes.proofs.Alike.{Called, Cycled, fails, same_reset}
use Rattle.command_changes.proofs.Fates.{single}

-- these changes lead from one core to another
abbrev pub Makes : Core → List Change → Core → Type 0
Makes c xs d = command_state_of d ≡ all_changed xs (command_state_of c)

pub failed_makes : (n : ℕ) (c : Core) → Makes c (failing n) (failed n c)
unfolding failed
failed_makes n c = refl

-- who holds GroupStopping by a command
pub holder : (k : BlockKind) (w : Wanted) → hold_by k w.owner ≡ change.hold_by (is_stop k) (Some w)
holder kind.GroupStop w = refl
holder _ w = refl

-- what a call makes of the commands
abbrev Calls : Core → Option ℕ → Fate → List Change → Core → Type 0
Calls c owner f xs d = Called (command_state_of c) owner f xs (command_state_of d)

-- the path brakes for a command of nobody
pub nobody_brakes : (k : ℕ) (active : Option Wanted) → owner_count k (owner_by (braking_for active)) ≡ 0
nobody_brakes k None = nobody k
nobody_brakes k (Some w) = nobody k

-- a halt and a stop end the others
halted_called : (members : GroupLook) (w : Wanted) (c : Core) →
    Calls c w.owner (fates.replaced finish.Aborted c.group.active (Some w)) (halted_changes w) (halted members w c)
halted_called members w c = record {
  makes = ap (λ o. record (all_changed (replaced finish.Aborted (Some w) [] ∷ []) (command_state_of c)) { hold = o }) (holder w.kind w);
  brings = λ k. omega arith;
  call = tt;
  fated = single (replaced finish.Aborted (Some w) []) (holds (is_stop w.kind) ∷ []) (command_state_of c) ((λ d. refl), tt);
}

module _ (order : AreInOrder) where
  -- a line
  entered_makes : (members : GroupLook) (w : Wanted) (c : Core) → is_active_at_once (queue_in c) w ≡ true →
      Makes c (joins w ∷ holds (is_stop w.kind) ∷ []) (line_begun members members.setpoints w (queued w c))
  entered_makes members w c h =
      let after : CommandState = all_changed (joins w ∷ []) (command_state_of c) in
      ap (λ o. record after { active = Some w; hold = o }) (holder w.kind w)
      ∙ ap (λ o. record after { active = o; hold = change.hold_by (is_stop w.kind) o }) (sym (order.at_once w (command_state_of c) h))

  joined_called : (members : GroupLook) (w : Wanted) (c : Core) →
      (let f = if is_active_at_once (queue_in c) w then fates.replaced finish.Aborted c.group.active (Some w) else goes_on in
      Calls c w.owner f (joined_changes w c) (if is_active_at_once (queue_in c) w then line_begun members members.setpoints w (queued w c) else queued w c))
  joined_called members w c =
      let s : CommandState = command_state_of c in
      let f : Fate = if is_active_at_once (queue_in c) w then fates.replaced finish.Aborted c.group.active (Some w) else goes_on in
      either (Calls c w.owner f) (is_active_at_once (queue_in c) w) (joins w ∷ holds (is_stop w.kind) ∷ []) (joins w ∷ [])
      (line_begun members members.setpoints w (queued w c)) (queued w c)
      (λ h. record { makes = entered_makes members w c h; brings = λ k. omega arith; call = tt; fated = single (joins w) (holds (is_stop w.kind) ∷ []) s ((λ d. refl), tt) })
      (λ h. record { makes = refl; brings = λ k. omega arith; call = tt; fated = single (joins w) [] s tt })

  line_called : (members : GroupLook) (w : Wanted) (c : Core) → Calls c w.owner (line_fate w c) (line_changes w c) (line_joined members w c)
  line_called members w c = by (waits_for_rest w c.path)
    where
      by : (b : Bool) → Calls c w.owner (if b then fates.replaced finish.Aborted c.group.active (braking_for c.group.active)
          else (if is_active_at_once (queue_in c) w then fates.replaced finish.Aborted c.group.active (Some w) else goes_on))
          (if b then replaced finish.Aborted (braking_for c.group.active) (w ∷ []) ∷ [] else joined_changes w c)
          (if b then braked_for w c else (if is_active_at_once (queue_in c) w then line_begun members members.setpoints w (queued w c) else queued w c))
      by true = record {
        makes = refl;
        brings = λ k. let z = nobody_brakes k c.group.active in omega arith;
        call = tt;
        fated = single (replaced finish.Aborted (braking_for c.group.active) (w ∷ [])) [] (command_state_of c) tt;
      }
      by false = joined_called members w c

  admitted_called : (x : BlockKind) (members : GroupLook) (w : Wanted) (c : Core) →
      Calls c (owners.brought_by x w) (admitted_fate x w c) (admitted_changes x w c) (admitted_by x members w c)
  admitted_called kind.MoveLinearAbsolute members w c = line_called members w c
  admitted_called kind.GroupReset members w c =
      record { makes = by c.group.reset refl; brings = λ k. omega arith; call = tt; fated = single (awaits w.owner) [] (command_state_of c) tt }
    where
      by : (o : Option PendingReset) → c.group.reset ≡ o → Makes c (admitted_changes kind.GroupReset w c) (admitted_by kind.GroupReset members w c)
      by None e = rw e refl
      by (Some p) e = rw e refl
  admitted_called kind.GroupStop members w c = halted_called members w c
  admitted_called kind.GroupHalt members w c = halted_called members w c
  admitted_called _ members w c = record { makes = refl; brings = λ k. let z = nobody k in omega arith; call = tt; fated = record { ends = refl; begins = refl } }

  asked_called : (o : Option Reason) (members : GroupLook) (w : Wanted) (c : Core) →
      Calls c (owners.brought o w) (asked_fate o w c) (asked_changes o w c) (commanded_by o members w c)
  asked_called None members w c = admitted_called w.kind members w c
  asked_called (Some r) members w c = record { makes = refl; brings = λ k. let z = nobody k in omega arith; call = tt; fated = record { ends = refl; begins = refl } }

  pub command_called : (w : Wanted) (jerk : ℤ) (members : GroupLook) (c : Core) →
      Calls c (owners.brought (refusal_of (asked_in c w jerk members)) w) (command_fate w jerk members c) (command_changes w jerk members c) (commanded w jerk members c)
  unfolding command_fate command_changes commanded
  command_called w jerk members c = asked_called (refusal_of (asked_in c w jerk members)) members w c

-- an error of a member, in a call or in a cycle
pub failing_cycles : (n : ℕ) (c : Core) → Cycled (command_state_of c) (fates.replaced (finish.Error n) c.group.active None) (failing n) (command_state_of (failed n c))
failing_cycles n c = record {
  makes = failed_makes n c;
  none = fails n;
  fated = single (replaced (finish.Error n) None []) (holds false ∷ []) (command_state_of c) ((λ d. refl), tt);
}

-- a Power off
pub off_cycles : (c : Core) → Cycled (command_state_of c) (power_off_fate c) (power_off_changes c) (command_state_of (powered_off c))
unfolding power_off_fate power_off_changes powered_off
off_cycles c = by (may_fail c.group.state)
  where
    by : (b : Bool) → Cycled (command_state_of c) (if b then fates.replaced (finish.Error 102) c.group.active None else goes_on) (if b then failing 102 else [])
        (command_state_of (if b then failed 102 c else c))
    by true = failing_cycles 102 c
    by false = record { makes = refl; none = tt; fated = record { ends = refl; begins = refl } }

pub off_call : (c : Core) → IsCall (power_off_changes c)
unfolding power_off_changes
off_call c = by_if IsCall (may_fail c.group.state) (failing 102) [] (λ h. tt) (λ h. tt)

-- an owner that is taken away
pub detach_makes : (owner : ℕ) (c : Core) → command_state_of (disowned owner c) ≡ command_state.disowned owner (command_state_of c)
unfolding group_without
detach_makes owner c = rw (same_reset owner c.group.reset) refl

pub detach_fated : AreTakenAway → (owner : ℕ) (g : Group) → IsSame g.active (group_without owner g).active
unfolding group_without
detach_fated taken owner g = taken.same owner g.active

-- a command finds its place
regrouped : (a b c : Bool) → ((a && b) && c) ≡ false → (a && (b && c)) ≡ false
regrouped true b c h = h
regrouped false b c h = refl

line_fits : (w : Wanted) (c : Core) → ((not (is_aborting w.mode) && is_some c.group.active) && nat_eq (length c.waiting) 8) ≡ false →
    AllFit (line_changes w c) (command_state_of c)
line_fits w c room =
    let free : is_full (queue_in c) w ≡ false = regrouped (not (is_aborting w.mode)) (is_some c.group.active) (nat_eq (length c.waiting) 8) room in
    by_if (λ (xs : List Change). AllFit xs (command_state_of c)) (waits_for_rest w c.path) _ _ (λ h. (omega arith, tt))
    (λ h. by_if (λ (xs : List Change). AllFit xs (command_state_of c)) (is_active_at_once (queue_in c) w) _ _ (λ g. (free, (tt, tt))) (λ g. (free, tt)))

fits_by : (k : BlockKind) (members : GroupLook) (w : Wanted) (jerk : ℤ) (c : Core) → NoneHolds (asked_in c (of_kind k w) jerk members) (tests_of k) →
    AllFit (admitted_changes k (of_kind k w) c) (command_state_of c)
unfolding refusals.holds
fits_by kind.GroupReset members w jerk c n = (tt, tt)
fits_by kind.GroupStop members w jerk c n = (omega arith, (tt, tt))
fits_by kind.GroupHalt members w jerk c n = (omega arith, (tt, tt))
fits_by kind.MoveLinearAbsolute members w jerk c n = line_fits (of_kind kind.MoveLinearAbsolute w) c n.1.1.1.1.1.0
fits_by _ members w jerk c n = tt

asked_fits : (o : Option Reason) (members : GroupLook) (w : Wanted) (jerk : ℤ) (c : Core) → refusal_of (asked_in c w jerk members) ≡ o →
    AllFit (asked_changes o w c) (command_state_of c)
unfolding refusal_of
asked_fits None members w jerk c h = fits_by w.kind members w jerk c (none-holds (asked_in c w jerk members) (tests_of w.kind) h)
asked_fits (Some r) members w jerk c h = tt

pub command_fits : (w : Wanted) (jerk : ℤ) (members : GroupLook) (c : Core) → AllFit (command_changes w jerk members c) (command_state_of c)
unfolding command_changes
command_fits w jerk members c = asked_fits (refusal_of (asked_in c w jerk members)) members w jerk c refl
