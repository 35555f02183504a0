-- An instance has commands on the axis or group of its block alone, so that taking them away there
-- takes all away.
-- for: call
use Rattle.std.specs.Prelude.{◌≡◌, refl, ℕ, zero, suc, ◌+◌, ◌-◌, ◌<◌, Bool, true, false, not, nat_eq, if◌then◌else◌, Option, Some, None, List, [], ◌∷◌, length, map, slice_get, slice_index_or, slice_set}
use Rattle.std.proofs.Common.{arith, ap, sym, subst, inl, inr, ◌∙◌}
use Rattle.std.proofs.lemmas.Bool.{and_parts, cases_eq, cases_lt, ne_eqb}
use Rattle.axis_core.specs.Calls.{axis_without_owner}
use Rattle.axis_core.specs.Owners.{core_without_owner}
use Rattle.buffer_modes.specs.Owners.{active_without, owner_count, one_of, owner_by, waits_of}
use Rattle.buffer_modes.specs.Resets.{reset_owner, reset_without}
use Rattle.buffer_modes.specs.declared.reset.PendingReset.{PendingReset}
use Rattle.command_core.specs.CommandState.{CommandState, owns}
use Rattle.plc_types.specs.Kinds.{acts_on_group}
use Rattle.command_pool.specs.Waiting.{detached, queue_of, without}
use Rattle.command_pool.specs.declared.wanted.Wanted.{Wanted}
use Rattle.fb_outputs.specs.InstanceState.{InstanceState}
use Rattle.fb_outputs.specs.Steps.{is_power}
use Rattle.group_core.specs.Calls.{disowned, group_without}
use Rattle.motion_history.specs.Setup.{Setup}
use Rattle.motion_history.specs.declared.config.BlockDef.{BlockDef}
use Rattle.motion_kernel.specs.calls.Calls.{with_axis_core, with_group_core, without_owner}
use Rattle.motion_kernel.specs.Machine.{Machine, axis_at, axis_core_at, group_at, group_core_at, list_of, no_axis, no_group}
use Rattle.motion_kernel.specs.kept.Machine.{IsSized}
use Rattle.motion_kernel.specs.owners.Blocks.{OwnersHaveBlocks, command_state_at}
use Rattle.motion_kernel.specs.owners.Objects.{a_group, an_axis, IsThere, Object, has_commands_on, is_same, object_of}
use Rattle.motion_kernel.proofs.kept.Detached.{placed_without}

-- where nothing is an instance's, taking its own away changes nothing
owner_stays : (k : ℕ) (o : Option ℕ) → owner_count k o ≡ 0 → without k o ≡ o
unfolding owner_count
owner_stays k None e = refl
owner_stays k (Some j) e = by (nat_eq j k) e
  where
    by : (b : Bool) → one_of b ≡ 0 → (if b then None else Some j) ≡ Some j
    by true e = absurd (cc)
    by false e = refl

active_stays : (k : ℕ) (o : Option Wanted) → owner_count k (owner_by o) ≡ 0 → active_without k o ≡ o
active_stays k None e = refl
active_stays k (Some w) e = ap (λ (o : Option ℕ). let v : Wanted = record w { owner = o } in Some v) (owner_stays k w.owner e)

reset_stays : (k : ℕ) (o : Option PendingReset) → owner_count k (reset_owner o) ≡ 0 → reset_without k o ≡ o
reset_stays k None e = refl
reset_stays k (Some p) e = ap (λ (o : Option ℕ). let v : PendingReset = record { owner = o } in Some v) (owner_stays k p.owner e)

hold_stays : (k : ℕ) (o : Option ℕ) → (o ≡ Some k → ⊥) → without k o ≡ o
hold_stays k None free = refl
hold_stays k (Some j) free = elim (cases_eq j k) [
  | inl e ↦ absurd (free (ap Some e))
  | inr d ↦ rw (ne_eqb j k d) refl
]

waits_stay : (k : ℕ) (ws : List Wanted) → waits_of k ws ≡ 0 → map (detached k) ws ≡ ws
waits_stay k [] e = refl
waits_stay k (w ∷ ws) e =
    let first = owner_stays k w.owner (omega arith) in
    let rest = waits_stay k ws (omega arith) in
    λ i. record w { owner = first i } ∷ rest i

-- none of these commands is an instance's, nor is the hold
record IsNobodys (k : ℕ) (c : CommandState) : Type 0 where
  pub none : owns k c ≡ 0
  pub free : c.hold ≡ Some k → ⊥

axis_stays : (k : ℕ) (m : Machine) (n : ℕ) → IsNobodys k (command_state_at m (an_axis n)) → axis_without_owner k (axis_at m n) ≡ axis_at m n
unfolding axis_without_owner
axis_stays k m n h =
    let a = axis_at m n in
    let none = h.none in
    let active = active_stays k a.active (omega arith) in
    let reset = reset_stays k a.reset (omega arith) in
    let hold = hold_stays k a.hold h.free in
    λ i. record a { active = active i; reset = reset i; hold = hold i }

group_stays : (k : ℕ) (m : Machine) (j : ℕ) → IsNobodys k (command_state_at m (a_group j)) → placed_without k (group_at m j) ≡ group_at m j
unfolding group_without
group_stays k m j h =
    let g = group_at m j in
    let none = h.none in
    let active = active_stays k g.group.active (omega arith) in
    let reset = reset_stays k g.group.reset (omega arith) in
    let hold = hold_stays k g.group.hold h.free in
    λ i. record g { group = record g.group { active = active i; reset = reset i; hold = hold i } }

-- what changes none of a list's elements, or none but one
same_all : {X : Type 0} (f : X → X) (xs : List X) (d : X) → ((j : ℕ) → j < length xs → f (slice_index_or xs j d) ≡ slice_index_or xs j d) → map f xs ≡ xs
same_all f [] d h = refl
same_all f (x ∷ xs) d h =
    let first = h 0 (omega arith) in
    let rest = same_all f xs d (λ j l. h (suc j) (omega arith)) in
    λ i. first i ∷ rest i

same_but : {X : Type 0} (f : X → X) (xs : List X) (n : ℕ) (d : X) → n < length xs →
    ((j : ℕ) → j < length xs → (j ≡ n → ⊥) → f (slice_index_or xs j d) ≡ slice_index_or xs j d) → map f xs ≡ slice_set xs n (f (slice_index_or xs n d))
same_but f [] n d l h = absurd (omega arith)
same_but f (x ∷ xs) zero d l h = ap (λ ys. f x ∷ ys) (same_all f xs d (λ j l. h (suc j) (omega arith) (λ e. omega arith)))
same_but f (x ∷ xs) (suc n) d l h =
    let first = h 0 (omega arith) (λ e. omega arith) in
    let rest = same_but f xs n d (omega arith) (λ j l other. h (suc j) (omega arith) (λ e. other (omega arith))) in
    λ i. first i ∷ rest i

-- where its block does not act, nothing is an instance's
beside : (s : Setup) (k : ℕ) (b : BlockDef) (m : Machine) → slice_get s.blocks k ≡ Some b → OwnersHaveBlocks s m →
    (p : Object) → IsThere m p → is_same (object_of b) p ≡ false → IsNobodys k (command_state_at m p)
beside s k b m at h p there other =
    let not_on : has_commands_on (slice_get s.blocks k) p ≡ true → ⊥ = λ e.
    let parts = and_parts (not (is_power b.kind)) (is_same (object_of b) p) (subst (λ x. has_commands_on x p ≡ true) at e) in
    let same : is_same (object_of b) p ≡ true = parts.1 in cc in
    record {
      none = elim (cases_eq (owns k (command_state_at m p)) 0) [
        | inl z ↦ z
        | inr d ↦ absurd (not_on ((h p there k).commands (omega arith)))
      ];
      free = λ e. not_on ((h p there k).holds e);
    }

module _ (s : Setup) (k : ℕ) (m : Machine) (sized : IsSized s m) where
  -- the lists of all that are not an instance's
  list_stays : (o : Object) → ((p : Object) → IsThere m p → is_same o p ≡ false → IsNobodys k (command_state_at m p)) →
      (j : ℕ) → j < length m.queues → (j < length m.axes → is_same o (an_axis j) ≡ false) →
      (length m.axes + (j - length m.axes) ≡ j → is_same o (a_group (j - length m.axes)) ≡ false) →
      map (detached k) (queue_of m.queues j) ≡ queue_of m.queues j
  list_stays o all j l axis group = elim (cases_lt j (length m.axes)) [
    | inl on ↦
        let none = (all (an_axis j) on (axis on)).none in
        waits_stay k (queue_of m.queues j) (omega arith)
    | inr off ↦
        let g = j - length m.axes in
        let is : length m.axes + g ≡ j = omega arith in
        let a = sized.axes in
        let b = sized.groups in
        let c = sized.queues in
        let none = (all (a_group g) (omega arith) (group is)).none in
        subst (λ n. map (detached k) (queue_of m.queues n) ≡ queue_of m.queues n) is (waits_stay k (queue_of m.queues (list_of m g)) (omega arith))
  ]

  pub axis_freed : (b : BlockDef) → slice_get s.blocks k ≡ Some b → OwnersHaveBlocks s m → acts_on_group b.kind ≡ false → b.object < length m.axes →
      with_axis_core m b.object (core_without_owner k (axis_core_at m b.object)) ≡ without_owner k m
  unfolding without_owner
  axis_freed b at h off l =
      let n = b.object in
      let is : object_of b ≡ an_axis n = ap (λ z. if z then a_group n else an_axis n) off in
      let all : (p : Object) → IsThere m p → is_same (an_axis n) p ≡ false → IsNobodys k (command_state_at m p) =
      λ p there other. beside s k b m at h p there (ap (λ o. is_same o p) is ∙ other) in
      let a = sized.axes in
      let c = sized.queues in
      let axes = same_but (axis_without_owner k) m.axes n no_axis l (λ j lj other. axis_stays k m j (all (an_axis j) lj (ne_eqb n j (λ e. other (sym e))))) in
      let groups = same_all (placed_without k) m.groups no_group (λ j lj. group_stays k m j (all (a_group j) lj refl)) in
      let queues = same_but (map (detached k)) m.queues n [] (omega arith)
      (λ j lj other. list_stays (an_axis n) all j lj (λ on. ne_eqb n j (λ e. other (sym e))) (λ e. refl)) in
      sym (λ i. record m { axes = axes i; groups = groups i; queues = queues i })

  pub group_freed : (b : BlockDef) → slice_get s.blocks k ≡ Some b → OwnersHaveBlocks s m → acts_on_group b.kind ≡ true → b.object < length m.groups →
      with_group_core m b.object (disowned k (group_core_at m b.object)) ≡ without_owner k m
  unfolding without_owner
  group_freed b at h on l =
      let n = b.object in
      let is : object_of b ≡ a_group n = ap (λ z. if z then a_group n else an_axis n) on in
      let all : (p : Object) → IsThere m p → is_same (a_group n) p ≡ false → IsNobodys k (command_state_at m p) =
      λ p there other. beside s k b m at h p there (ap (λ o. is_same o p) is ∙ other) in
      let a = sized.axes in
      let d = sized.groups in
      let c = sized.queues in
      let axes = same_all (axis_without_owner k) m.axes no_axis (λ j lj. axis_stays k m j (all (an_axis j) lj refl)) in
      let groups = same_but (placed_without k) m.groups n no_group l (λ j lj other. group_stays k m j (all (a_group j) lj (ne_eqb n j (λ e. other (sym e))))) in
      let queues = same_but (map (detached k)) m.queues (list_of m n) [] (omega arith)
      (λ j lj other. list_stays (a_group n) all j lj (λ on. refl) (λ e. ne_eqb n (j - length m.axes) (λ same. other (omega arith)))) in
      sym (λ i. record m { axes = axes i; groups = groups i; queues = queues i })

-- where nothing else changes than what instances show
pub other_instances : (s : Setup) (m : Machine) (is : List InstanceState) → OwnersHaveBlocks s m → OwnersHaveBlocks s (record m { instances = is })
other_instances s m is h (an_axis n) there k = h (an_axis n) there k
other_instances s m is h (a_group j) there k = h (a_group j) there k

-- the number of an axis or a group of which there is one
pub where_it_acts : (n groups axes : ℕ) (b c : Bool) → b ≡ c → n < (if b then groups else axes) → n < (if c then groups else axes)
where_it_acts n groups axes b c e l = subst (λ x. n < (if x then groups else axes)) e l
