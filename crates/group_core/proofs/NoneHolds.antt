-- A command that is not refused: none of the reasons of its kind holds.
-- for: power_off, reset_cycle, detach and others
use Rattle.std.specs.Prelude.{◌≡◌, refl, ℕ, zero, suc, ◌<◌, Bool, true, false, ℤ, pos, int_lt, Option, Some, None, List, [], ◌∷◌, if◌then◌else◌}
use Rattle.std.proofs.Common.{arith, sym, inl, inr, subst}
use Rattle.std.proofs.lemmas.Bool.{cases_eq, or_parts}
use Rattle.std.proofs.lemmas.Int.{ints}
use Rattle.command_pool.specs.Rates.{AreRates}
use Rattle.plc_types.specs.declared.kind.BlockKind.TheVariants as kind
use Rattle.command_pool.specs.declared.rates.Rates.{Rates}
use Rattle.axis_state.specs.GroupDiagram.{IsFrom}
use Rattle.axis_state.specs.declared.group_diagram.GroupEvent.TheVariants as event
use Rattle.plc_types.specs.declared.group.GroupState.{GroupState}
use Rattle.plc_types.specs.declared.group.GroupState.TheVariants as state
use Rattle.plc_types.specs.declared.limits.Limits.{Limits}
use Rattle.linear_path.specs.Line.{coordinate_of}
use Rattle.linear_path.specs.Path.{limits_at}
use Rattle.motion_numbers.specs.Ranges.{is_outside}
use Rattle.group_core.specs.GroupKept.{IsDeceleration, IsWithin}
use Rattle.group_core.specs.Kinds.{may_come}
use Rattle.group_core.specs.Refusals.{Asked, any_outside, first_holding, holds, is_no_rate}
use Rattle.group_core.specs.declared.reason.Reason.{Reason}

-- none of these reasons holds
abbrev pub NoneHolds : Asked → List Reason → Type 0
NoneHolds q [] = Unit {0}
NoneHolds q (r ∷ rs) = (holds r q ≡ false) × NoneHolds q rs

skipped : (b : Bool) (r : Reason) (o : Option Reason) → (if b then Some r else o) ≡ None → (b ≡ false) × (o ≡ None)
skipped true r o h = absurd (cc)
skipped false r o h = (refl, h)

-- where no first reason is found, none holds
pub none-holds : (q : Asked) (rs : List Reason) → first_holding q rs ≡ None → NoneHolds q rs
none-holds q [] h = tt
none-holds q (r ∷ rs) h =
    let p = skipped (holds r q) r (first_holding q rs) h in
    (p.0, none-holds q rs p.1)

-- a rate that is in its range
pub rate-in : (rate : ℤ) → is_no_rate rate ≡ false → IsDeceleration rate
rate-in rate h =
    let parts = or_parts (int_lt rate (pos 1)) (int_lt (pos 10000000000) rate) h in
    let above : int_lt rate (pos 1) ≡ false = parts.0 in
    let below : int_lt (pos 10000000000) rate ≡ false = parts.1 in
    record { least = omega (arith, ints); most = omega (arith, ints) }

pub rates-in : (r : Rates) → is_no_rate r.v ≡ false → is_no_rate r.a ≡ false → is_no_rate r.d ≡ false → AreRates r
rates-in r v a d =
    let p = rate-in r.v v in
    let q = rate-in r.a a in
    let s = rate-in r.d d in
    record {
      least_velocity = p.least;
      most_velocity = p.most;
      least_acceleration = q.least;
      most_acceleration = q.most;
      least_deceleration = s.least;
      most_deceleration = s.most;
    }

-- a target that is within the limits of its axis
within-in : (l : Limits) (z : ℤ) → is_outside l.lo z l.hi ≡ false → IsWithin l z
within-in l z h =
    let parts = or_parts (int_lt z l.lo) (int_lt l.hi z) h in
    let above : int_lt z l.lo ≡ false = parts.0 in
    let below : int_lt l.hi z ≡ false = parts.1 in
    record { above = omega (arith, ints); below = omega (arith, ints) }

pub targets-in : (n : ℕ) (limits : List Limits) (targets : List ℤ) → any_outside n limits targets ≡ false → (axis : ℕ) → axis < n →
    IsWithin (limits_at limits axis) (coordinate_of targets axis)
unfolding any_outside
targets-in zero limits targets h axis within = absurd (omega arith)
targets-in (suc n) limits targets h axis within =
    let parts = or_parts (any_outside n limits targets) (is_outside (limits_at limits n).lo (coordinate_of targets n) (limits_at limits n).hi) h in
    elim (cases_eq axis n) [
      | inl same ↦ subst (λ k. IsWithin (limits_at limits k) (coordinate_of targets k)) (sym same)
          (within-in (limits_at limits n) (coordinate_of targets n) parts.1)
      | inr other ↦ targets-in n limits targets parts.0 axis (omega (arith, within, other))
    ]

-- a block that may come in a state: its event leads from there
pub enable-from : (s : GroupState) (moves : Bool) → may_come kind.GroupEnable s moves ≡ true → IsFrom s event.Enable
enable-from state.GroupDisabled moves h = (state.GroupStandby, (refl, refl))
enable-from _ moves h = absurd (cc)

pub disable-from : (s : GroupState) (moves : Bool) → may_come kind.GroupDisable s moves ≡ true → IsFrom s event.Disable
disable-from state.GroupDisabled moves h = (state.GroupDisabled, (inl refl, refl))
disable-from state.GroupStandby moves h = (state.GroupDisabled, (inr (inl refl), refl))
disable-from state.GroupErrorStop moves h = (state.GroupDisabled, (inr (inr refl), refl))
disable-from _ moves h = absurd (cc)

pub stop-from : (s : GroupState) (moves : Bool) → may_come kind.GroupStop s moves ≡ true → IsFrom s event.StopAdmitted
stop-from state.GroupStandby moves h = (state.GroupStopping, (inl refl, refl))
stop-from state.GroupMoving moves h = (state.GroupStopping, (inr refl, refl))
stop-from _ moves h = absurd (cc)

pub halt-from : (s : GroupState) (moves : Bool) → may_come kind.GroupHalt s moves ≡ true → IsFrom s event.MoveAdmitted
halt-from state.GroupStandby moves h = (state.GroupMoving, (inl refl, refl))
halt-from state.GroupMoving moves h = (state.GroupMoving, (inr refl, refl))
halt-from _ moves h = absurd (cc)

pub line-from : (s : GroupState) (moves : Bool) → may_come kind.MoveLinearAbsolute s moves ≡ true → IsFrom s event.MoveAdmitted
line-from state.GroupStandby moves h = (state.GroupMoving, (inl refl, refl))
line-from state.GroupMoving moves h = (state.GroupMoving, (inr refl, refl))
line-from _ moves h = absurd (cc)
