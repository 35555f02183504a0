-- The invariant of an axis in Standstill, and that the axes of a group of which none is moved are
-- in it.
-- for: machines_stay_kept, call, cycle and others
use Rattle.std.specs.Prelude.{◌≡◌, ◌⊎◌, refl, ℕ, zero, suc, ◌<◌, ◌≤◌, Bool, false, Option, None, List, [], ◌∷◌, length, map, slice_index_or}
use Rattle.std.specs.List.{list_any}
use Rattle.std.proofs.Common.{arith, ap, sym, subst, ◌∙◌, inl, inr}
use Rattle.std.proofs.lemmas.Bool.{or_parts}
use Rattle.std.proofs.lemmas.List.{get_or-map, length-map}
use Rattle.axis_core.specs.AxisKept as axis
use Rattle.axis_core.specs.Cores as cores
use Rattle.axis_core.specs.blocks.Power.{is_powered}
use Rattle.plc_types.specs.declared.axis_state.AxisState.{AxisState}
use Rattle.plc_types.specs.declared.axis_state.AxisState.TheVariants.{Standstill}
use Rattle.command_pool.specs.declared.wanted.Wanted.{Wanted}
use Rattle.group_core.specs.Refusals.{states_in}
use Rattle.group_core.specs.States.{is_moved}
use Rattle.motion_history.specs.Setup.{Setup}
use Rattle.motion_kernel.specs.looks.GroupLooks.{group_look}
use Rattle.motion_kernel.specs.Machine.{Machine, axis_at}
use Rattle.motion_kernel.specs.members.Members.{member_at, members_at}
use Rattle.motion_kernel.proofs.kept.Ready.{states_shown}

-- the invariant of an axis in Standstill
pub record StandsStill (c : cores.Core) : Type 0 where
  pub idle : c.axis.active ≡ None
  pub alone : c.waiting ≡ []
  pub stands : c.axis.previous ≡ c.axis.setpoint

no_queue : (s : AxisState) (active : Option Wanted) (ws : List Wanted) → s ≡ Standstill → active ≡ None → (ws ≡ []) ⊎ axis.MayQueue s active → ws ≡ []
no_queue s active ws e i (inl h) = h
no_queue s active ws e i (inr h) =
    absurd (subst (λ o. axis.MayQueue Standstill o) i (subst (λ t. axis.MayQueue t active) e h))

pub stands_still : (c : cores.Core) → axis.IsCoreKept c → c.axis.state ≡ Standstill → StandsStill c
stands_still c h e =
    let a = c.axis in
    let here = subst (λ (s : AxisState). axis.IsInState s a.driven (is_powered a) a.was_off a.previous a.setpoint a.active) e h.axis.state in
    record { idle = here.idle; alone = no_queue a.state a.active c.waiting e here.idle h.queue; stands = here.stands }

-- where no axis is moved each is in Standstill
none_of : (p : AxisState → Bool) (xs : List AxisState) (i : ℕ) (d : AxisState) → list_any p xs ≡ false → i < length xs → p (slice_index_or xs i d) ≡ false
none_of p [] i d h l = absurd (omega arith)
none_of p (x ∷ xs) zero d h l = (or_parts (p x) (list_any p xs) h).0
none_of p (x ∷ xs) (suc i) d h l = none_of p xs i d (or_parts (p x) (list_any p xs) h).1 (omega arith)

not_moved : (s : AxisState) → is_moved s ≡ false → s ≡ Standstill
not_moved Standstill e = refl
not_moved _ e = absurd (cc)

pub none_moved : (s : Setup) (m : Machine) (j error place : ℕ) → length (members_at s j) ≤ 6 → place < length (members_at s j) →
    list_any is_moved (states_in (group_look s m j error)) ≡ false → (axis_at m (member_at (members_at s j) place)).state ≡ Standstill
none_moved s m j error place few l e =
    let f : ℕ → AxisState = λ k. (axis_at m k).state in
    let shown = states_shown s m j error few in
    let size = length-map (members_at s j) f in
    let h : list_any is_moved (map f (members_at s j)) ≡ false = ap (list_any is_moved) (sym shown) ∙ e in
    let none = none_of is_moved (map f (members_at s j)) place Standstill h (omega arith) in
    not_moved (f (member_at (members_at s j) place)) (ap is_moved (sym (get_or-map f (members_at s j) place 0 Standstill l)) ∙ none)
