-- The ErrorID of a refused command of a group is the first whose condition holds.
-- for: refusals_are_the_first
use Rattle.std.specs.Prelude.{◌≡◌, ◌≢◌, ◌⊎◌, refl, ℕ, zero, suc, ◌<◌, ℤ, pos, Bool, true, false, if◌then◌else◌, Some, List, [], ◌∷◌, map, None}
use Rattle.std.specs.Bool.{Decides}
use Rattle.std.specs.List.{list_any}
use Rattle.std.proofs.Common.{arith, ap, subst, sym, inl, inr, ◌∙◌}
use Rattle.std.proofs.lemmas.Bool.{cases_Bool, cases_eq}
use Rattle.std.proofs.lemmas.Bool.Decides.{Decides-and, Decides-eqb, Decides-like, Decides-not, Decides-or}
use Rattle.axis_core.specs.Ranges.{IsBetween}
use Rattle.axis_state.specs.States as axes
use Rattle.plc_types.specs.declared.axis_state.AxisState.{AxisState}
use Rattle.plc_types.specs.declared.axis_state.AxisState.TheVariants as axis
use Rattle.plc_types.specs.declared.kind.BlockKind.{BlockKind}
use Rattle.plc_types.specs.declared.kind.BlockKind.TheVariants as kind
use Rattle.plc_types.specs.declared.kind.BufferMode.{BufferMode}
use Rattle.plc_types.specs.declared.kind.BufferMode.TheVariants as mode
use Rattle.group_core.specs.Kinds.{may_come, tests_of}
use Rattle.group_core.specs.Refusals.{Asked, any_outside, first_holding, holds, is_blending, limits_in, number_of, refusal_of, states_in}
use Rattle.group_core.specs.States.{is_moved}
use Rattle.group_core.specs.declared.reason.Reason.{Reason}
use Rattle.group_core.specs.declared.reason.Reason.TheVariants as reason
use Rattle.plc_types.specs.declared.group.GroupState.{GroupState}
use Rattle.plc_types.specs.declared.group.GroupState.TheVariants as state
use Rattle.plc_types.specs.declared.limits.Limits.{Limits}
use Rattle.linear_path.specs.Line.{coordinate_of}
use Rattle.linear_path.specs.Path.{limits_at}
use Rattle.motion_numbers.specs.Ranges.{is_outside}
use Rattle.motion_laws.proofs.error_ids.Axes as one
use Rattle.motion_laws.proofs.error_ids.Tests.{fails, first_same, none_same, nothing_of, outside, there, waits}
use Rattle.motion_laws.specs.error_ids.First.{HoldsOfNone, IsFirst}
use Rattle.motion_laws.specs.error_ids.Group.{Condition, MayCome, OneIs, OneIsNot, tested}

-- the states of its axes
one_is : (test : AxisState → Bool) (s : AxisState) → ((t : AxisState) → Decides (test t) (t ≡ s)) →
    (ts : List AxisState) → Decides (list_any test ts) (OneIs s ts)
one_is test s each [] = (λ h. absurd (cc), λ h. absurd h)
one_is test s each (t ∷ ts) = Decides-or (test t) (list_any test ts) (each t) (one_is test s each ts)

is_moved_by : (t : AxisState) → Decides (is_moved t) (t ≢ axis.Standstill)
is_moved_by axis.Standstill = (λ h. absurd (cc), λ h. absurd (h refl))
is_moved_by _ = (λ h e. cc, λ h. refl)

one_is_not : (ts : List AxisState) → Decides (list_any is_moved ts) (OneIsNot axis.Standstill ts)
one_is_not [] = (λ h. absurd (cc), λ h. absurd h)
one_is_not (t ∷ ts) = Decides-or (is_moved t) (list_any is_moved ts) (is_moved_by t) (one_is_not ts)

-- its targets
record AnyOutside (n : ℕ) (limits : List Limits) (targets : List ℤ) : Type 0 where
  place : ℕ
  there : place < n
  outside :
      IsBetween (limits_at limits place).lo (coordinate_of targets place)
      (limits_at limits place).hi → ⊥

any : (n : ℕ) (limits : List Limits) (targets : List ℤ) →
    Decides (any_outside n limits targets) (AnyOutside n limits targets)
unfolding any_outside
any zero limits targets = (λ h. absurd (cc), λ h. absurd (let l = h.there in omega arith))
any (suc n) limits targets =
    let l = limits_at limits n in
    Decides-like _ to from
    (Decides-or (any_outside n limits targets) (is_outside l.lo (coordinate_of targets n) l.hi)
    (any n limits targets) (outside l.lo (coordinate_of targets n) l.hi))
  where
    to : AnyOutside n limits targets
        ⊎ (IsBetween (limits_at limits n).lo (coordinate_of targets n) (limits_at limits n).hi → ⊥) →
        AnyOutside (suc n) limits targets
    to (inl h) = let l = h.there in record { place = h.place; there = omega arith; outside = h.outside }
    to (inr h) = record { place = n; there = omega arith; outside = h }

    from : AnyOutside (suc n) limits targets →
        AnyOutside n limits targets
        ⊎ (IsBetween (limits_at limits n).lo (coordinate_of targets n) (limits_at limits n).hi → ⊥)
    from h = elim (cases_eq h.place n) [
      | inl e ↦ inr (subst (λ k. IsBetween (limits_at limits k).lo (coordinate_of targets k)
          (limits_at limits k).hi → ⊥) e h.outside)
      | inr d ↦ let l = h.there in
          inl (record { place = h.place; there = omega arith; outside = h.outside })
    ]

-- its state
come : (k : BlockKind) (s : GroupState) (moves : Bool) → Decides (may_come k s moves) (MayCome k s moves)
come kind.GroupEnable state.GroupDisabled moves =
    (λ h. (state.GroupStandby, (refl, refl)), λ h. refl)
come kind.GroupEnable _ moves = (λ h. absurd (cc), λ h. absurd (let no = h.1.0 in cc))
come kind.GroupDisable state.GroupDisabled moves =
    (λ h. ((state.GroupDisabled, (inl refl, refl)), λ e. absurd (cc)), λ h. refl)
come kind.GroupDisable state.GroupStandby moves =
    (λ h. ((state.GroupDisabled, (inr (inl refl), refl)), λ e. absurd (cc)), λ h. refl)
come kind.GroupDisable state.GroupErrorStop true =
    (λ h. absurd (cc), λ h. absurd (let no = h.1 refl in cc))
come kind.GroupDisable state.GroupErrorStop false =
    (λ h. ((state.GroupDisabled, (inr (inr refl), refl)), λ e. refl), λ h. refl)
come kind.GroupDisable _ moves = (
  λ h. absurd (cc),
  λ h. absurd (elim h.0.1.0 [
    | inl e ↦ cc
    | inr o ↦ elim o [ inl e ↦ cc | inr e ↦ cc ]
  ]),
)
come kind.GroupStop state.GroupStandby moves =
    (λ h. (state.GroupStopping, (inl refl, refl)), λ h. refl)
come kind.GroupStop state.GroupMoving moves =
    (λ h. (state.GroupStopping, (inr refl, refl)), λ h. refl)
come kind.GroupStop _ moves =
    (λ h. absurd (cc), λ h. absurd (elim h.1.0 [ inl e ↦ cc | inr e ↦ cc ]))
come kind.GroupHalt state.GroupStandby moves =
    (λ h. (state.GroupMoving, (inl refl, refl)), λ h. refl)
come kind.GroupHalt state.GroupMoving moves =
    (λ h. (state.GroupMoving, (inr refl, refl)), λ h. refl)
come kind.GroupHalt _ moves =
    (λ h. absurd (cc), λ h. absurd (elim h.1.0 [ inl e ↦ cc | inr e ↦ cc ]))
come kind.MoveLinearAbsolute state.GroupStandby moves =
    (λ h. (state.GroupMoving, (inl refl, refl)), λ h. refl)
come kind.MoveLinearAbsolute state.GroupMoving moves =
    (λ h. (state.GroupMoving, (inr refl, refl)), λ h. refl)
come kind.MoveLinearAbsolute _ moves =
    (λ h. absurd (cc), λ h. absurd (elim h.1.0 [ inl e ↦ cc | inr e ↦ cc ]))
come kind.MoveCircularAbsolute state.GroupStandby moves =
    (λ h. (state.GroupMoving, (inl refl, refl)), λ h. refl)
come kind.MoveCircularAbsolute state.GroupMoving moves =
    (λ h. (state.GroupMoving, (inr refl, refl)), λ h. refl)
come kind.MoveCircularAbsolute _ moves =
    (λ h. absurd (cc), λ h. absurd (elim h.1.0 [ inl e ↦ cc | inr e ↦ cc ]))
come _ s moves = (λ h. absurd (cc), λ h. absurd h)

-- its mode
blends : (m : BufferMode) →
    Decides (is_blending m) ((m ≢ mode.Aborting) × (m ≢ mode.Buffered))
blends mode.Aborting = (λ h. absurd (cc), λ h. absurd (h.0 refl))
blends mode.Buffered = (λ h. absurd (cc), λ h. absurd (h.1 refl))
blends _ = (λ h. (λ e. cc, λ e. cc), λ h. refl)

-- each reason holds exactly where its ErrorID's condition does
decides : (r : Reason) (q : Asked) → Decides (holds r q) (Condition q (number_of r))
unfolding holds
decides reason.NotPowered q = one_is axes.is_disabled axis.Disabled one.disabled (states_in q.members)
decides reason.InErrorStop q =
    one_is axes.is_error_stop axis.ErrorStop one.error_stop (states_in q.members)
decides reason.InStopping q = one_is axes.is_stopping axis.Stopping one.stopping (states_in q.members)
decides reason.InHoming q = one_is axes.is_homing axis.Homing one.homing (states_in q.members)
decides reason.BadVelocity q = outside (pos 1) q.wanted.rates.v (pos 10000000000)
decides reason.BadAcceleration q = outside (pos 1) q.wanted.rates.a (pos 10000000000)
decides reason.BadDeceleration q = outside (pos 1) q.wanted.rates.d (pos 10000000000)
decides reason.JerkRefused q = nothing_of q.jerk
decides reason.TargetOutside q =
    Decides-like _ (λ h. record { place = h.place; there = h.there; outside = h.outside })
    (λ h. record { place = h.place; there = h.there; outside = h.outside })
    (any q.members.count (limits_in q.members) q.wanted.targets)
decides reason.QueueFull q =
    Decides-like _ (λ h. record { waits = h.0.0; behind = h.0.1; full = h.1 })
    (λ h. ((h.waits, h.behind), h.full))
    (Decides-and _ _ (Decides-and _ _ (waits q.wanted.mode) (there q.group.active))
    (Decides-eqb q.waiting 8))
decides reason.NotAtRest q = one_is_not (states_in q.members)
decides reason.GroupStateRefuses q =
    Decides-not (may_come q.wanted.kind q.group.state q.moves)
    (come q.wanted.kind q.group.state q.moves)
decides reason.BlendRefused q = blends q.wanted.mode
decides reason.CircularRefused q = (λ h. tt, λ h. refl)

-- the first reason that holds has the first ErrorID whose condition holds
same_reason : (x r : Reason) → Some x ≡ Some r → r ≡ x
same_reason x r e = cc

first_reason : (q : Asked) (rs : List Reason) (r : Reason) → first_holding q rs ≡ Some r →
    IsFirst (Condition q) (map number_of rs) (number_of r)
first_reason q [] r e = absurd (cc)
first_reason q (x ∷ xs) r e = elim (cases_Bool (holds x q)) [
  | inl h ↦ inl (
    ap number_of (same_reason x r
        (sym (ap (λ b. if b then Some x else first_holding q xs) h) ∙ e)),
    (decides x q).0 h,
  )
  | inr h ↦ inr (
    fails (holds x q) (decides x q) h,
    first_reason q xs r
        (sym (ap (λ b. if b then Some x else first_holding q xs) h) ∙ e),
  )
]

table : (k : BlockKind) → map number_of (tests_of k) ≡ tested k
table kind.GroupEnable = refl
table _ = refl

pub group_first : (q : Asked) (r : Reason) → refusal_of q ≡ Some r →
    IsFirst (Condition q) (tested q.wanted.kind) (number_of r)
unfolding refusal_of
group_first q r e =
    first_same (Condition q) _ _ (number_of r) (number_of r) (table q.wanted.kind) refl
    (first_reason q (tests_of q.wanted.kind) r e)

-- where no reason holds no condition does
no_reason : (q : Asked) (rs : List Reason) → first_holding q rs ≡ None →
    HoldsOfNone (Condition q) (map number_of rs)
no_reason q [] e = tt
no_reason q (x ∷ xs) e = elim (cases_Bool (holds x q)) [
  | inl h ↦ absurd (let some : Some x ≡ None =
      sym (ap (λ b. if b then Some x else first_holding q xs) h) ∙ e in cc)
  | inr h ↦ (
    fails (holds x q) (decides x q) h,
    no_reason q xs
        (sym (ap (λ b. if b then Some x else first_holding q xs) h) ∙ e),
  )
]

pub group_none : (q : Asked) → refusal_of q ≡ None → HoldsOfNone (Condition q) (tested q.wanted.kind)
unfolding refusal_of
group_none q e =
    none_same (Condition q) _ _ (table q.wanted.kind) (no_reason q (tests_of q.wanted.kind) e)
