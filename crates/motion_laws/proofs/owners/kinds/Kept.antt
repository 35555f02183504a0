-- Commands are of the kinds of their instances' blocks, after every past.
-- for: machines_can_stand, done_moves_are_at_their_targets, commands_end_by_their_kinds
use Rattle.std.specs.Prelude.{◌≡◌, refl, ℕ, zero, suc, ◌+◌, Some, None, List, [], ◌∷◌, length, map}
use Rattle.std.specs.List.{AllByRecursion}
use Rattle.std.proofs.Common.{sym, subst, ◌∙◌, inl, inr}
use Rattle.std.proofs.lemmas.Bool.{cases_Bool}
use Rattle.axis_core.specs.Cycles.{axis_at_opening}
use Rattle.plc_types.specs.declared.axis.AxisDef.{AxisDef}
use Rattle.buffer_modes.specs.Resets.{reset_owner}
use Rattle.command_core.specs.Changes.{Change, all_changed}
use Rattle.command_core.specs.CommandState.{CommandState}
use Rattle.motion_history.specs.Entries.{Entry}
use Rattle.motion_history.specs.Setup.{Setup, IsSetup}
use Rattle.motion_history.specs.declared.config.GroupDef.{GroupDef}
use Rattle.motion_kernel.specs.Histories.{IsPast, machine_after}
use Rattle.motion_kernel.specs.Machine.{Machine, axis_among, group_among, group_at_opening, list_of, machine_at_opening}
use Rattle.motion_kernel.specs.kept.Machine.{AreWhole}
use Rattle.motion_kernel.proofs.kept.Opening.{none_waits}
use Rattle.motion_kernel.specs.owners.Kinds.{AreOfTheirBlocks, IsOfItsBlock}
use Rattle.motion_kernel.specs.owners.Objects.{a_group, an_axis, Object, is_same}
use Rattle.motion_kernel.proofs.owners.commands.Events.{same_object}
use Rattle.motion_kernel.proofs.owners.kinds.Changes.{BringOwn, all_none_own, all_own, disowned_own}
use Rattle.motion_kernel.proofs.walk.Events.{executed_alike, found_alike, freed_at, freed_there, replied_alike}
use Rattle.motion_laws.specs.Standing.{KindsMatch}
use Rattle.motion_laws.proofs.walk.Histories.{by_history}
use Rattle.motion_kernel.proofs.walk.Keeps.{Alike, Anyone, Asks, Event, Keeps, WalkLaws, command_state_at, freed}

module _ (laws : WalkLaws) (s : Setup) where
  alike_match : (m x : Machine) → Alike m x → KindsMatch s m → KindsMatch s x
  alike_match m x a h p l = subst (AreOfTheirBlocks s) (sym (a.same p)) (h p (a.as_many p l))

  -- what is reported is no command
  untold_match : (c : CommandState) → AreOfTheirBlocks s c → AreOfTheirBlocks s (record c { notes = [] })
  untold_match c a = record { active = a.active; waiting = a.waiting; reset = a.reset }

  event_match : (m x : Machine) (o : Object) (xs : List Change) → Event m x o xs → BringOwn s xs → KindsMatch s m → KindsMatch s x
  event_match m x o xs e own h p l = elim (cases_Bool (is_same o p)) [
    | inl same ↦ subst (λ q. AreOfTheirBlocks s (command_state_at x q)) (same_object o p same)
        (subst (AreOfTheirBlocks s) (sym e.here) (untold_match (all_changed xs (command_state_at m o)) (all_own s xs (command_state_at m o) own (h o e.there))))
    | inr d ↦ subst (AreOfTheirBlocks s) (sym (e.beside p (e.as_many p l) d)) (h p (e.as_many p l))
  ]

  asked_match : (k : ℕ) (m z : Machine) → Asks s k m z → KindsMatch s m → KindsMatch s z
  asked_match k m z a h =
      let free = freed k a.called m in
      let freed_match : KindsMatch s free = λ p l.
      let there = freed_there k a.called m p l in
      subst (AreOfTheirBlocks s) (sym (freed_at laws k a.called m p there)) (disowned_own s k (command_state_at m p) (h p there)) in
      alike_match a.asked z a.alike (event_match free a.asked a.object a.changes a.event a.kinds freed_match)

  pub kinds_kept : Keeps s Anyone (KindsMatch s) (KindsMatch s)
  kinds_kept = record {
    executed = λ k b i m may at quiet h. alike_match m _ (executed_alike k i m) h;
    powered = λ m x o xs e none call h. event_match m x o xs e (all_none_own s xs none) h;
    asked = λ k m z may a h. asked_match k m z a h;
    replied = λ k m may h. alike_match m _ (replied_alike k m) h;
    begins = λ m sized h. h;
    cycled = λ m x o xs e none h. event_match m x o xs e (all_none_own s xs none) h;
    found = λ m sized h. alike_match m _ (found_alike s m) h;
  }

-- at opening there are none
no_command : (s : Setup) (c : CommandState) → c.active ≡ None → c.waiting ≡ [] → c.reset ≡ None → AreOfTheirBlocks s c
no_command s c a w r = record {
  active = λ v e. absurd (let z : None ≡ Some v = sym a ∙ e in cc);
  waiting = subst (AllByRecursion (IsOfItsBlock s)) (sym w) tt;
  reset = λ k b e at. absurd (let z : None ≡ Some k = sym r ∙ e in cc);
}

axis_rests : (axes : List AxisDef) (n : ℕ) → (axis_among (map axis_at_opening axes) n).active ≡ None
unfolding axis_at_opening
axis_rests [] n = refl
axis_rests (d ∷ ds) zero = refl
axis_rests (d ∷ ds) (suc n) = axis_rests ds n

axis_resets : (axes : List AxisDef) (n : ℕ) → reset_owner (axis_among (map axis_at_opening axes) n).reset ≡ None
unfolding axis_at_opening
axis_resets [] n = refl
axis_resets (d ∷ ds) zero = refl
axis_resets (d ∷ ds) (suc n) = axis_resets ds n

group_rests : (groups : List GroupDef) (j : ℕ) → (group_among (map group_at_opening groups) j).group.active ≡ None
group_rests [] j = refl
group_rests (d ∷ ds) zero = refl
group_rests (d ∷ ds) (suc j) = group_rests ds j

group_resets : (groups : List GroupDef) (j : ℕ) → reset_owner (group_among (map group_at_opening groups) j).group.reset ≡ None
group_resets [] j = refl
group_resets (d ∷ ds) zero = refl
group_resets (d ∷ ds) (suc j) = group_resets ds j

pub opening_match : (s : Setup) → KindsMatch s (machine_at_opening s)
opening_match s (an_axis n) l =
    no_command s (command_state_at (machine_at_opening s) (an_axis n)) (axis_rests s.axes n) (none_waits (length s.axes + length s.groups) n) (axis_resets s.axes n)
opening_match s (a_group j) l =
    no_command s (command_state_at (machine_at_opening s) (a_group j)) (group_rests s.groups j)
    (none_waits (length s.axes + length s.groups) (list_of (machine_at_opening s) j)) (group_resets s.groups j)

-- in every past
pub kinds_match : WalkLaws → (s : Setup) (es : List Entry) → IsSetup s → AreWhole s → IsPast s es → KindsMatch s (machine_after s es)
unfolding machine_after
kinds_match laws s es setup whole past =
    by_history laws s Anyone (KindsMatch s) (KindsMatch s) (kinds_kept laws s) (λ k. tt) (opening_match s) es setup whole past
