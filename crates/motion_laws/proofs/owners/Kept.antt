-- Every event keeps that commands are where their instances show, and the active ones.
-- for: machines_can_stand, replies_show_commands, commands_are_where_their_instances_show and others
use Rattle.std.specs.Prelude.{◌≡◌, ℕ, ◌<◌, ◌≤◌, false, nat_eq, if◌then◌else◌, List, length, slice_get}
use Rattle.std.proofs.Common.{arith, ap, sym, ◌∙◌}
use Rattle.std.proofs.lemmas.Bool.{eqb-false}
use Rattle.std.proofs.lemmas.List.{get_or-set_other, length-set}
use Rattle.buffer_modes.specs.Owners.{ends_given}
use Rattle.plc_types.specs.declared.drive.DriveIn.{DriveIn}
use Rattle.command_core.specs.Brought.{brought}
use Rattle.command_core.specs.Changes.{all_changed}
use Rattle.command_core.specs.CommandState.{active_of, owns}
use Rattle.fb_outputs.specs.InstanceState.{InstanceState}
use Rattle.fb_outputs.specs.Steps as instance
use Rattle.plc_types.specs.declared.inputs.Inputs.{Inputs}
use Rattle.motion_history.specs.Calls.{IsCall}
use Rattle.motion_history.specs.Entries.{Entry}
use Rattle.motion_history.specs.Setup.{Setup, IsSetup}
use Rattle.motion_kernel.specs.Histories.{IsPast, replay}
use Rattle.motion_kernel.specs.Machine.{Machine, machine_at_opening, instance_at, no_instance}
use Rattle.motion_kernel.specs.calls.Calls.{after_call, with_instance}
use Rattle.motion_kernel.specs.cycles.AxisCycles.{axes_cycled}
use Rattle.motion_kernel.specs.cycles.Cycles.{after_cycle}
use Rattle.motion_kernel.specs.cycles.GroupResets.{groups_reset}
use Rattle.motion_kernel.specs.cycles.GroupSteps.{groups_stepped}
use Rattle.motion_kernel.specs.kept.Machine.{AreWhole, IsMachineKept}
use Rattle.motion_kernel.specs.looks.AxisLooks.{Surroundings}
use Rattle.motion_kernel.proofs.Sizes.{told_length}
use Rattle.motion_kernel.specs.owners.Commands.{ActiveAreShown, CommandsAreShown, active_at, active_shown, commands_at, commands_shown}
use Rattle.motion_kernel.specs.owners.Objects.{IsThere, Object, has_commands_on, is_same}
use Rattle.motion_kernel.proofs.owners.Counts.{shown_by}
use Rattle.motion_laws.proofs.owners.Events.{active_in, commands_of, event_changes, event_keeps, event_keeps_waiting, free_active, free_none, free_shown}
use Rattle.motion_kernel.proofs.owners.Blocks.{untold}
use Rattle.motion_laws.proofs.owners.active.Calls.{executed_active, instance_active, reply_active}
use Rattle.motion_laws.proofs.owners.active.Cycles.{found_truly, opening_truly_shown}
use Rattle.motion_laws.proofs.owners.active.Events.{all_active, ActiveOf, AreTrulyShown, active_by, event_active}
use Rattle.motion_laws.proofs.owners.active.Waiting.{WaitsOf, event_waits, waits_first}
use Rattle.motion_kernel.proofs.owners.commands.Asked.{all_shown, own_at, set_at}
use Rattle.motion_laws.proofs.owners.commands.Calls.{executed_shown, instance_shown, reply_shown}
use Rattle.motion_laws.proofs.owners.commands.Cycles.{found_shown}
use Rattle.motion_kernel.proofs.owners.commands.Events.{IsGood, OwnerLaws, ShownOf, event_shown}
use Rattle.motion_kernel.proofs.owners.commands.Freed.{instances_without}
use Rattle.motion_kernel.proofs.walk.Calls.{by_call}
use Rattle.motion_kernel.proofs.walk.Cycles.{Good, by_axes, by_cycle, by_resets, by_steps}
use Rattle.motion_laws.proofs.walk.Histories.{by_history}
use Rattle.motion_kernel.proofs.walk.Keeps.{Anyone, Asks, Keeps, command_state_at, freed}

-- within a cycle an instance that shows Active has no command that waits
record AreWaiting (s : Setup) (m : Machine) : Type 0 where
  commands : CommandsAreShown s m
  waits : (k : ℕ) → WaitsOf s k m

-- an instance that is answered, and the others
answered_own : (s : Setup) (k : ℕ) (m z : Machine) (a : Asks s k m z) → instance_at z.instances k ≡ a.shown
answered_own s k m z a =
    let free = freed k a.called m in
    let notes = (all_changed a.changes (command_state_at free a.object)).notes in
    let one = ap length a.event.told in
    let two = told_length notes free.instances in
    let three = ap length (instances_without k (with_instance m k a.called)) in
    let four = length-set m.instances k a.called in
    let place = a.place in
    let there : k < length a.asked.instances = omega arith in
    ap (λ is. instance_at is k) a.answered ∙ set_at a.asked.instances k a.shown there

pub answered_other : (s : Setup) (k j : ℕ) (m z : Machine) (a : Asks s k m z) → nat_eq k j ≡ false →
    instance_at z.instances j ≡ instance_at a.asked.instances j
answered_other s k j m z a d =
    ap (λ is. instance_at is j) a.answered ∙ get_or-set_other a.asked.instances k j a.shown no_instance (λ e. eqb-false k j d (sym e))

-- where an object is before an instance asks
asked_there : (s : Setup) (k : ℕ) (m z : Machine) (a : Asks s k m z) (p : Object) → IsThere z p → IsThere (freed k a.called m) p
asked_there s k m z a p l = a.event.as_many p (a.alike.as_many p l)

module _ (laws : OwnerLaws) where
  -- the commands once one is asked
  asked_others : (s : Setup) (k j : ℕ) (m z : Machine) (a : Asks s k m z) → nat_eq k j ≡ false → ShownOf s j m → ShownOf s j a.asked
  asked_others s k j m z a d shown =
      let free = freed k a.called m in
      event_shown s j free a.asked a.object _ (event_changes laws j free a.asked a.object a.changes a.event (a.others j d))
      (free_shown laws s k j a.called m d shown)

  asked_shown : (s : Setup) (k : ℕ) (m z : Machine) → Asks s k m z → CommandsAreShown s m → CommandsAreShown s z
  asked_shown s k m z a h = all_shown s k z own others
    where
      here : commands_at z k a.object ≡ brought k a.changes
      here =
          let c = command_state_at (freed k a.called m) a.object in
          let now = commands_of z k a.object ∙ ap (owns k) (a.alike.same a.object ∙ a.event.here) in
          let none = free_none laws k a.called m a.object a.event.there in
          let once = laws.once.once k a.changes c in
          let nothing : ends_given k c.notes ≡ 0 = ap (ends_given k) (untold (freed k a.called m) a.object) in
          let untold = laws.once.untold k a.changes c a.call none in
          omega arith

      beside : (p : Object) → IsThere z p → is_same a.object p ≡ false → commands_at z k p ≡ 0
      beside p l d =
          let there = asked_there s k m z a p l in
          commands_of z k p ∙ ap (owns k) (a.alike.same p ∙ a.event.beside p there d) ∙ free_none laws k a.called m p there

      own : ShownOf s k z
      own = own_at s k a.object (commands_at z k) (IsThere z) (shown_by z.instances k) (brought k a.changes) a.on here
          (ap (λ (x : InstanceState). commands_shown x.progress) (answered_own s k m z a) ∙ a.brings) beside

      others : (j : ℕ) → nat_eq k j ≡ false → ShownOf s j z
      others j d p l =
          commands_of z j p ∙ ap (owns j) (a.alike.same p) ∙ sym (commands_of a.asked j p)
          ∙ asked_others s k j m z a d (h j) p (a.alike.as_many p l)
          ∙ ap (λ (x : InstanceState). if has_commands_on (slice_get s.blocks j) p then commands_shown x.progress else 0)
          (sym (answered_other s k j m z a d))

  -- the active ones
  asked_active : (s : Setup) (k : ℕ) (m z : Machine) → Asks s k m z → CommandsAreShown s m → ActiveAreShown s m → ActiveAreShown s z
  asked_active s k m z a h active = all_active s k z own others
    where
      here : active_at z k a.object ≡ active_shown a.shown.progress
      here =
          let none = free_none laws k a.called m a.object a.event.there in
          active_in z k a.object ∙ ap (active_of k) (a.alike.same a.object) ∙ sym (a.active (omega arith))

      beside : (p : Object) → IsThere z p → is_same a.object p ≡ false → active_at z k p ≡ 0
      beside p l d =
          let there = asked_there s k m z a p l in
          let none = free_none laws k a.called m p there in
          let now = active_in z k p ∙ ap (active_of k) (a.alike.same p ∙ a.event.beside p there d) in
          omega arith

      own : ActiveOf s k z
      own = own_at s k a.object (active_at z k) (IsThere z) (active_by z.instances k) (active_shown a.shown.progress) a.on here
          (ap (λ (x : InstanceState). active_shown x.progress) (answered_own s k m z a)) beside

      others : (j : ℕ) → nat_eq k j ≡ false → ActiveOf s j z
      others j d p l =
          let free = freed k a.called m in
          let one = event_active s j free a.asked a.object _ (event_changes laws j free a.asked a.object a.changes a.event (a.others j d))
          (event_keeps laws j free a.asked a.object a.changes a.event (a.others j d) a.call)
          (free_shown laws s k j a.called m d (h j)) (free_active laws s k j a.called m d (active j)) in
          active_in z j p ∙ ap (active_of j) (a.alike.same p) ∙ sym (active_in a.asked j p) ∙ one p (a.alike.as_many p l)
          ∙ ap (λ (x : InstanceState). if has_commands_on (slice_get s.blocks j) p then active_shown x.progress else 0)
          (sym (answered_other s k j m z a d))

  -- what each event keeps
  pub commands_kept : (s : Setup) → Keeps s Anyone (CommandsAreShown s) (CommandsAreShown s)
  commands_kept s = record {
    executed = λ k b i m may at quiet h. executed_shown s k b i m at quiet h;
    powered = λ m x o xs e none call h k.
        event_shown s k m x o _ (event_changes laws k m x o xs e (laws.once.none k xs none)) (h k);
    asked = λ k m z may a h. asked_shown s k m z a h;
    replied = λ k m may h. instance_shown s m k (instance.shown (instance_at m.instances k)) (reply_shown (instance_at m.instances k).progress) h;
    begins = λ m sized h. h;
    cycled = λ m x o xs e none h k.
        event_shown s k m x o _ (event_changes laws k m x o xs e (laws.once.none k xs none)) (h k);
    found = λ m sized h. found_shown s m h;
  }

  truly_kept : (s : Setup) → Keeps s Anyone (AreTrulyShown s) (AreWaiting s)
  truly_kept s =
      let c = commands_kept s in
      record {
        executed = λ k b i m may at quiet h. record {
          commands = c.executed k b i m may at quiet h.commands;
          active = executed_active s k b i m at quiet h.active;
        };
        powered = λ m x o xs e none call h. record {
          commands = c.powered m x o xs e none call h.commands;
          active = λ k. event_active s k m x o _ (event_changes laws k m x o xs e (laws.once.none k xs none))
              (event_keeps laws k m x o xs e (laws.once.none k xs none) call) (h.commands k) (h.active k);
        };
        asked = λ k m z may a h. record {
          commands = asked_shown s k m z a h.commands;
          active = asked_active s k m z a h.commands h.active;
        };
        replied = λ k m may h. record {
          commands = c.replied k m may h.commands;
          active = instance_active s m k (instance.shown (instance_at m.instances k)) (reply_active (instance_at m.instances k).progress) h.active;
        };
        begins = λ m sized h. record { commands = h.commands; waits = waits_first s m h.commands h.active };
        cycled = λ m x o xs e none h. record {
          commands = c.cycled m x o xs e none h.commands;
          waits = λ k. event_waits s k m x o _ (event_changes laws k m x o xs e (laws.once.none k xs none))
              (event_keeps_waiting laws k m x o xs e (laws.once.none k xs none)) (h.commands k) (h.waits k);
        };
        found = λ m sized h. record { commands = c.found m sized h.commands; active = found_truly s m h.commands h.waits };
      }

  pub call_truly_shown : (s : Setup) (m : Machine) (k : ℕ) (i : Inputs) → AreWhole s → IsCall s k i → IsMachineKept s m →
      AreTrulyShown s m → AreTrulyShown s (after_call s m k i)
  call_truly_shown s m k i whole made kept h = by_call laws.walk s Anyone (AreTrulyShown s) (AreWaiting s) (truly_kept s) k tt m i whole made kept h

  pub cycle_truly_shown : (s : Setup) (m : Machine) (ins : List DriveIn) → IsMachineKept s m → AreTrulyShown s m →
      AreTrulyShown s (after_cycle s m ins)
  cycle_truly_shown s m ins kept h = by_cycle laws.walk s Anyone (AreTrulyShown s) (AreWaiting s) (truly_kept s) m ins kept h

  pub past_truly_shown : (s : Setup) (es : List Entry) → IsSetup s → AreWhole s → IsPast s es →
      AreTrulyShown s (replay s (machine_at_opening s) es)
  past_truly_shown s es setup whole past =
      by_history laws.walk s Anyone (AreTrulyShown s) (AreWaiting s) (truly_kept s) (λ k. tt) (opening_truly_shown s) es setup whole past

  -- so within a call and a cycle
  good_of : (s : Setup) (m : Machine) → IsGood s m → Good s (CommandsAreShown s) m
  good_of s m h = record { sized = h.sized; keeps = h.shown }

  shown_of : (s : Setup) (m : Machine) → Good s (CommandsAreShown s) m → IsGood s m
  shown_of s m h = record { sized = h.sized; shown = h.keeps }

  pub steps_good : (s : Setup) (n : ℕ) (ins : List DriveIn) (m : Machine) → n ≤ length s.groups → IsGood s m → IsGood s (groups_stepped s n ins m).machine
  steps_good s n ins m l h =
      shown_of s (groups_stepped s n ins m).machine (by_steps laws.walk s Anyone (CommandsAreShown s) (CommandsAreShown s) (commands_kept s) n ins m l (good_of s m h))

  pub axes_good : (s : Setup) (n : ℕ) (around : Surroundings) (m : Machine) → n ≤ length s.axes → IsGood s m → IsGood s (axes_cycled s n around m).machine
  axes_good s n around m l h =
      shown_of s (axes_cycled s n around m).machine (by_axes laws.walk s Anyone (CommandsAreShown s) (CommandsAreShown s) (commands_kept s) n around m l (good_of s m h))

  pub resets_good : (s : Setup) (n : ℕ) (m : Machine) → n ≤ length s.groups → IsGood s m → IsGood s (groups_reset s n m).machine
  resets_good s n m l h =
      shown_of s (groups_reset s n m).machine (by_resets laws.walk s Anyone (CommandsAreShown s) (CommandsAreShown s) (commands_kept s) n m l (good_of s m h))
