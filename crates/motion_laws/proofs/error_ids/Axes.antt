-- The ErrorID of a refused command of an axis is the first whose condition holds.
-- for: refusals_are_the_first
use Rattle.std.specs.Prelude.{◌≡◌, ◌≢◌, ◌⊎◌, refl, ℕ, ◌≤◌, ◌-◌, ◌^◌, ℤ, ◌+ℤ◌, ◌-ℤ◌, pos, neg_ℤ, true, false, not, ◌||◌, ◌==◌, nat_lt, if◌then◌else◌, Option, Some, None, List, [], ◌∷◌, map}
use Rattle.std.specs.Bool.{Decides}
use Rattle.std.proofs.Common.{arith, ap, subst, sym, inl, inr, ◌∙◌}
use Rattle.std.proofs.lemmas.Bool.{cases_Bool}
use Rattle.std.proofs.lemmas.Bool.Decides.{Decides-and, Decides-eqb, Decides-like, Decides-not, Decides-or, nat_tests}
use Rattle.axis_core.specs.Kinds.{tests_of}
use Rattle.axis_core.specs.Ranges.{IsBetween}
use Rattle.axis_core.specs.Profiles.{profile_of}
use Rattle.axis_core.specs.Refusals.{Asked, first_holding, holds, is_outside_in, number_of, refusal_of}
use Rattle.axis_core.specs.blocks.Cam.{is_no_table}
use Rattle.axis_core.specs.blocks.Gear.{is_bad_ratio, is_ended_by, is_master, is_not_following}
use Rattle.axis_core.specs.blocks.Home.{breaks_in, has_counts}
use Rattle.axis_core.specs.blocks.Moves.{known_target_of}
use Rattle.axis_core.specs.blocks.Velocity.{least_velocity_in}
use Rattle.axis_core.specs.declared.axis.Axis.{Axis}
use Rattle.axis_core.specs.declared.profile.Goal.{Goal}
use Rattle.axis_core.specs.declared.profile.Goal.TheVariants.{Origin}
use Rattle.axis_core.specs.declared.profile.Manner.{Manner}
use Rattle.axis_core.specs.declared.profile.Manner.TheVariants.{Runs}
use Rattle.axis_core.specs.declared.reason.Reason.{Reason}
use Rattle.axis_core.specs.declared.reason.Reason.TheVariants as reason
use Rattle.plc_types.specs.Counts.{HasCounts, count_of}
use Rattle.axis_state.specs.States.{is_disabled, is_error_stop, is_homing, is_standstill, is_stopping}
use Rattle.plc_types.specs.declared.axis_state.AxisState.{AxisState}
use Rattle.plc_types.specs.declared.axis_state.AxisState.TheVariants as state
use Rattle.plc_types.specs.declared.kind.BlockKind.{BlockKind}
use Rattle.plc_types.specs.declared.kind.BlockKind.TheVariants as kind
use Rattle.command_pool.specs.declared.wanted.Follow.{Follow}
use Rattle.command_pool.specs.declared.wanted.Follow.TheVariants as follow
use Rattle.command_pool.specs.declared.wanted.Wanted.{Wanted}
use Rattle.plc_types.specs.declared.limits.Limits.{Limits}
use Rattle.motion_numbers.specs.Ranges.{is_outside}
use Rattle.motion_laws.proofs.error_ids.Tests.{at_most, fails, first_same, none_same, nothing_of, not_or, outside, there, waits, within}
use Rattle.motion_laws.specs.error_ids.Axis.{Condition, FollowsItself, HasBadRatio, HasNoTable, IsVelocity, Leaves, tested}
use Rattle.motion_laws.specs.error_ids.First.{HoldsOfNone, IsFirst}

-- the state of the axis
pub disabled : (s : AxisState) → Decides (is_disabled s) (s ≡ state.Disabled)
disabled state.Disabled = (λ h. refl, λ h. refl)
disabled _ = (λ h. absurd (cc), λ h. absurd (cc))

pub error_stop : (s : AxisState) → Decides (is_error_stop s) (s ≡ state.ErrorStop)
error_stop state.ErrorStop = (λ h. refl, λ h. refl)
error_stop _ = (λ h. absurd (cc), λ h. absurd (cc))

pub stopping : (s : AxisState) → Decides (is_stopping s) (s ≡ state.Stopping)
stopping state.Stopping = (λ h. refl, λ h. refl)
stopping _ = (λ h. absurd (cc), λ h. absurd (cc))

pub homing : (s : AxisState) → Decides (is_homing s) (s ≡ state.Homing)
homing state.Homing = (λ h. refl, λ h. refl)
homing _ = (λ h. absurd (cc), λ h. absurd (cc))

moved : (s : AxisState) → Decides (not (is_standstill s)) (s ≢ state.Standstill)
moved state.Standstill = (λ h. absurd (cc), λ h. absurd (h refl))
moved _ = (λ h e. cc, λ h. refl)

-- its rates
velocity : (m : Manner) (l : Limits) (v : ℤ) →
    Decides (is_outside (least_velocity_in m l) v l.vmax) (IsVelocity m v l.vmax → ⊥)
velocity Runs l v = outside (neg_ℤ l.vmax) v l.vmax
velocity _ l v = outside (pos 1) v l.vmax

-- its target
counts : (l : Limits) (offset inc : ℤ) → Decides (has_counts l offset inc) (HasCounts l offset inc)
counts l offset inc =
    Decides-like (has_counts l offset inc)
    (λ h. record { lowest = h.0; highest = h.1 }) (λ h. (h.lowest, h.highest))
    (Decides-and _ _ (at_most (neg_ℤ (pos (2 ^ 31))) (count_of l.lo offset inc))
    (at_most (count_of l.hi offset inc) (pos (2 ^ 31 - 1))))

abbrev BreaksCounts : Goal → Axis → ℤ → Type 0
BreaksCounts g a target =
    (g ≡ Origin) × (HasCounts a.limits (a.offset +ℤ (target -ℤ a.setpoint)) a.inc → ⊥)

breaks : (g : Goal) (a : Axis) (target : ℤ) →
    Decides (breaks_in g a target) (BreaksCounts g a target)
breaks Origin a target =
    Decides-like _ (λ h. (refl, h)) (λ h. h.1)
    (Decides-not _ (counts a.limits (a.offset +ℤ (target -ℤ a.setpoint)) a.inc))
breaks _ a target = (λ h. absurd (cc), λ h. absurd (let no = h.0 in cc))

record IsBadTarget (g : Goal) (a : Axis) (o : Option ℤ) : Type 0 where
  target : ℤ
  known : o ≡ Some target
  bad : (IsBetween a.limits.lo target a.limits.hi → ⊥) ⊎ BreaksCounts g a target

same_target : (x y : ℤ) → Some x ≡ Some y → y ≡ x
same_target x y e = cc

target : (g : Goal) (a : Axis) (o : Option ℤ) →
    Decides (is_outside_in g a o) (IsBadTarget g a o)
target g a None = (λ h. absurd (cc), λ h. absurd (let no = h.known in cc))
target g a (Some t) =
    Decides-like _ (λ h. record { target = t; known = refl; bad = h })
    (λ h. subst (λ x. (IsBetween a.limits.lo x a.limits.hi → ⊥) ⊎ BreaksCounts g a x)
    (same_target t h.target h.known) h.bad)
    (Decides-or (is_outside a.limits.lo t a.limits.hi) (breaks_in g a t)
    (outside a.limits.lo t a.limits.hi) (breaks g a t))

-- what it follows
ratio : (f : Follow) → Decides (is_bad_ratio f) (HasBadRatio f)
ratio (follow.Gear master n d) =
    Decides-like _ (λ h both. elim h [ inl far ↦ far both.0 | inr far ↦ far both.1 ])
    (λ h. by h (cases_Bool (is_outside (neg_ℤ (pos 1000000)) n (pos 1000000))))
    (Decides-or _ _ (outside (neg_ℤ (pos 1000000)) n (pos 1000000))
    (outside (pos 1) d (pos 1000000)))
  where
    by : ((IsBetween (neg_ℤ (pos 1000000)) n (pos 1000000) × IsBetween (pos 1) d (pos 1000000)) → ⊥) →
        (is_outside (neg_ℤ (pos 1000000)) n (pos 1000000) ≡ true)
        ⊎ (is_outside (neg_ℤ (pos 1000000)) n (pos 1000000) ≡ false) →
        (IsBetween (neg_ℤ (pos 1000000)) n (pos 1000000) → ⊥) ⊎ (IsBetween (pos 1) d (pos 1000000) → ⊥)
    by h (inl far) = inl ((outside (neg_ℤ (pos 1000000)) n (pos 1000000)).0 far)
    by h (inr near) = inr (λ b. h (within (neg_ℤ (pos 1000000)) n (pos 1000000) near, b))
ratio (follow.Cam master table) = (λ h. absurd (cc), λ h. absurd h)
ratio follow.None = (λ h. absurd (cc), λ h. absurd h)

bounds : (tables table : ℕ) → (table == 0) ≡ false → nat_lt tables table ≡ false →
    (1 ≤ table) × (table ≤ tables)
bounds tables table e f = (grind (arith, nat_tests), grind (arith, nat_tests))

past : (tables table : ℕ) → nat_lt tables table ≡ true → table ≤ tables → ⊥
past tables table h l = grind (arith, nat_tests)

no_table : (tables : ℕ) (f : Follow) → Decides (is_no_table tables f) (HasNoTable tables f)
no_table tables (follow.Cam master table) = (
  λ h b. by (cases_Bool (table == 0)) h b.0 b.1,
  λ h. elim (cases_Bool ((table == 0) || nat_lt tables table)) [
    | inl far ↦ far
    | inr none ↦
        let parts = not_or (table == 0) (nat_lt tables table) none in
        absurd (h (bounds tables table parts.0 parts.1))
  ],
)
  where
    by : (table == 0 ≡ true) ⊎ (table == 0 ≡ false) → ((table == 0) || nat_lt tables table) ≡ true →
        1 ≤ table → table ≤ tables → ⊥
    by (inl none) h least most = let same = (Decides-eqb table 0).0 none in omega arith
    by (inr some) h least most =
        let later : nat_lt tables table ≡ true = sym (ap (λ b. b || nat_lt tables table) some) ∙ h in
        past tables table later most
no_table tables (follow.Gear master n d) = (λ h. absurd (cc), λ h. absurd h)
no_table tables follow.None = (λ h. absurd (cc), λ h. absurd h)

itself : (number : ℕ) (f : Follow) → Decides (is_master number f) (FollowsItself number f)
itself number (follow.Gear master n d) = Decides-eqb master number
itself number (follow.Cam master table) = Decides-eqb master number
itself number follow.None = (λ h. absurd (cc), λ h. absurd h)

abbrev LeavesNone : BlockKind → Option Wanted → Type 0
LeavesNone k o = (w : Wanted) → o ≡ Some w → Leaves k w.kind → ⊥

left : (k x : BlockKind) → Decides (is_ended_by k x) (Leaves k x)
left kind.GearOut kind.GearIn = (λ h. refl, λ h. refl)
left kind.GearOut _ = (λ h. absurd (cc), λ h. absurd (cc))
left kind.CamOut kind.CamIn = (λ h. refl, λ h. refl)
left kind.CamOut _ = (λ h. absurd (cc), λ h. absurd (cc))
left _ x = (λ h. absurd (cc), λ h. absurd h)

same_command : (w u : Wanted) → Some w ≡ Some u → u ≡ w
same_command w u e = cc

leaves_none : (k : BlockKind) (o : Option Wanted) →
    Decides (is_not_following k o) (LeavesNone k o)
leaves_none k None = (λ h w e. absurd (cc), λ h. refl)
leaves_none k (Some w) =
    Decides-like _
    (λ h u e leaves. h (subst (λ (v : Wanted). Leaves k v.kind) (same_command w u e) leaves))
    (λ h leaves. h w refl leaves)
    (Decides-not (is_ended_by k w.kind) (left k w.kind))

-- each reason holds exactly where its ErrorID's condition does
decides : (r : Reason) (q : Asked) → Decides (holds r q) (Condition q (number_of r))
unfolding holds
decides reason.NotPowered q = disabled q.axis.state
decides reason.InErrorStop q = error_stop q.axis.state
decides reason.InStopping q = stopping q.axis.state
decides reason.InHoming q = homing q.axis.state
decides reason.GroupHoldsAxis q = (λ h. h, λ h. h)
decides reason.BadVelocity q =
    velocity (profile_of q.wanted.kind).manner q.axis.limits q.wanted.rates.v
decides reason.BadAcceleration q = outside (pos 1) q.wanted.rates.a q.axis.limits.amax
decides reason.BadDeceleration q = outside (pos 1) q.wanted.rates.d q.axis.limits.dmax
decides reason.JerkRefused q = nothing_of q.jerk
decides reason.TargetOutside q =
    Decides-like _ (λ h. record { target = h.target; known = h.known; bad = h.bad })
    (λ h. record { target = h.target; known = h.known; bad = h.bad })
    (target (profile_of q.wanted.kind).goal q.axis (known_target_of q.axis q.last q.wanted))
decides reason.QueueFull q =
    Decides-like _ (λ h. record { waits = h.0.0; behind = h.0.1; full = h.1 })
    (λ h. ((h.waits, h.behind), h.full))
    (Decides-and _ _ (Decides-and _ _ (waits q.wanted.mode) (there q.axis.active))
    (Decides-eqb q.waiting 8))
decides reason.NotAtRest q = moved q.axis.state
decides reason.BadRatio q = ratio q.wanted.follow
decides reason.NoTable q = no_table q.tables q.wanted.follow
decides reason.SelfMaster q = itself q.number q.wanted.follow
decides reason.NotFollowing q = leaves_none q.wanted.kind q.axis.active

-- the first reason that holds has the first ErrorID whose condition holds
same_reason : (x r : Reason) → Some x ≡ Some r → r ≡ x
same_reason x r e = cc

first_reason : (q : Asked) (rs : List Reason) (r : Reason) → first_holding q rs ≡ Some r →
    IsFirst (Condition q) (map number_of rs) (number_of r)
first_reason q [] r e = absurd (cc)
first_reason q (x ∷ xs) r e = elim (cases_Bool (holds x q)) [
  | inl h ↦ inl (
    ap number_of (same_reason x r
        (sym (ap (λ b. if b then Some x else first_holding q xs) h) ∙ e)),
    (decides x q).0 h,
  )
  | inr h ↦ inr (
    fails (holds x q) (decides x q) h,
    first_reason q xs r
        (sym (ap (λ b. if b then Some x else first_holding q xs) h) ∙ e),
  )
]

table : (k : BlockKind) → map number_of (tests_of k) ≡ tested k
table kind.Home = refl
table _ = refl

pub axis_first : (q : Asked) (r : Reason) → refusal_of q ≡ Some r →
    IsFirst (Condition q) (tested q.wanted.kind) (number_of r)
unfolding refusal_of
axis_first q r e =
    first_same (Condition q) _ _ (number_of r) (number_of r) (table q.wanted.kind) refl
    (first_reason q (tests_of q.wanted.kind) r e)

-- where no reason holds no condition does
no_reason : (q : Asked) (rs : List Reason) → first_holding q rs ≡ None →
    HoldsOfNone (Condition q) (map number_of rs)
no_reason q [] e = tt
no_reason q (x ∷ xs) e = elim (cases_Bool (holds x q)) [
  | inl h ↦ absurd (let some : Some x ≡ None =
      sym (ap (λ b. if b then Some x else first_holding q xs) h) ∙ e in cc)
  | inr h ↦ (
    fails (holds x q) (decides x q) h,
    no_reason q xs
        (sym (ap (λ b. if b then Some x else first_holding q xs) h) ∙ e),
  )
]

pub axis_none : (q : Asked) → refusal_of q ≡ None → HoldsOfNone (Condition q) (tested q.wanted.kind)
unfolding refusal_of
axis_none q e =
    none_same (Condition q) _ _ (table q.wanted.kind) (no_reason q (tests_of q.wanted.kind) e)
