-- Errors are reported as they are shown in a cycle.
-- for: errors_have_causes, errors_are_told_as_shown
use Rattle.std.specs.Prelude.{◌≡◌, ◌≢◌, ◌⊎◌, refl, ℕ, zero, suc, ◌<◌, ◌≤◌, true, false, nat_eq, if◌then◌else◌, is_some, None, List, [], ◌∷◌, length, slice_set}
use Rattle.std.proofs.Common.{arith, ap, sym, subst, ◌∙◌, inl, inr}
use Rattle.std.proofs.lemmas.Bool.{cases_Bool, cases_eq}
use Rattle.std.proofs.lemmas.List.{get_or-set_other, get_or-set_same}
use Rattle.axis_core.specs.Cycles.{core_after_cycle}
use Rattle.axis_core.specs.Drives.{answer_error_of}
use Rattle.axis_core.specs.declared.axis.Axis.{Axis}
use Rattle.plc_types.specs.declared.axis.AxisRow.{AxisRow}
use Rattle.plc_types.specs.declared.drive.DriveIn.{DriveIn}
use Rattle.command_changes.specs.Axis as axis
use Rattle.command_changes.specs.Group as group
use Rattle.command_core.specs.Changes.{all_changed}
use Rattle.command_core.specs.CommandState.{CommandState}
use Rattle.group_core.specs.Cores.{Core}
use Rattle.group_core.specs.Cycles.{cycled}
use Rattle.group_core.specs.declared.group.Group.{Group}
use Rattle.group_core.specs.declared.look.GroupLook.{GroupLook}
use Rattle.plc_types.specs.declared.group.GroupRow.{GroupRow}
use Rattle.motion_history.specs.Entries.{cycle}
use Rattle.motion_history.specs.Setup.{Setup}
use Rattle.motion_kernel.specs.Histories.{inputs_of}
use Rattle.motion_kernel.specs.Machine.{Machine, PlacedGroup, axis_among, axis_at, axis_core_at, group_among, group_at, group_core_at, no_group}
use Rattle.motion_kernel.specs.cycles.Cycles.{after_cycle, around_in, look_of_axis, look_of_group, stepped_in}
use Rattle.motion_kernel.specs.cycles.GroupResets.{core_after_reset, groups_reset}
use Rattle.motion_kernel.specs.kept.Machine.{IsMachineKept}
use Rattle.motion_kernel.specs.looks.AxisLooks.{axis_look}
use Rattle.motion_kernel.specs.looks.DriveAnswers.{answer_at, first_error}
use Rattle.motion_kernel.specs.looks.GroupLooks.{group_look}
use Rattle.motion_kernel.specs.members.Members.{member_at, members_at}
use Rattle.motion_kernel.proofs.cycles.OneAxis.{goes_through}
use Rattle.motion_kernel.proofs.cycles.Rows.{axes_groups}
use Rattle.motion_kernel.proofs.kept.GroupSteps.{have_stepped}
use Rattle.motion_kernel.proofs.kept.Ready.{member_there}
use Rattle.motion_laws.specs.entries.GroupEvents.{moved_in}
use Rattle.motion_laws.specs.entries.Numbers.{IsOfAnAxis, TellsErrors, error_at, is_stopped_at}
use Rattle.motion_kernel.specs.owners.Objects.{a_group, an_axis}
use Rattle.motion_laws.proofs.entries.events.Cycles.{groups_moved, resets_count}
use Rattle.motion_laws.proofs.entries.numbers.Axes as axes
use Rattle.motion_laws.proofs.entries.numbers.Groups.{IsLeft, cycle_error, cycle_tells, has_failed, reset_left, resets_plain}
use Rattle.motion_laws.proofs.entries.numbers.Notes.{AllTell, Shows, told_in}
use Rattle.motion_kernel.proofs.walk.Keeps.{WalkLaws}

-- an axis
pub axis_cycled : WalkLaws → (s : Setup) (m : Machine) (c : ℕ) (rows : List AxisRow)
    (grows : List GroupRow) (n : ℕ) → IsMachineKept s m → n < length m.axes →
    TellsErrors s m (cycle c rows grows) (an_axis n)
axis_cycled laws s m c rows grows n h l =
    let ins = inputs_of rows in
    let look = look_of_axis s m ins n in
    let core = axis_core_at m n in
    let goes = goes_through s m ins n h (laws.machines.may_go_on s m ins h) l in
    let changes = laws.axis in
    let P : Axis → ℕ → ℕ → Type 0 = axes.IsTold (axis.command_state_of core) in
    let after = axis_at (after_cycle s m ins) n in
    let told : AllTell (P after)
    (all_changed (axis.cycle_changes look core) (axis.command_state_of core)).notes =
    subst (AllTell (P after)) (ap (λ (d : CommandState). d.notes) (changes.cycle look core))
    (subst (λ a. AllTell (P a) (core_after_cycle look core).notes) (sym goes.after)
    (axes.cycle_told look core refl)) in
    record {
      shown = λ k error e. (told_in (P after) k error _ told e).1;
      whose = λ k error e. (told_in (P after) k error _ told e).0;
      stays = λ before now.
          elim (subst (axes.KeepsError (axis_at m n)) (sym goes.after)
          (axes.cycle_keeps look core before)) [
            | inl same ↦ same
            | inr out ↦ absurd (cc)
          ];
      comes = tt;
    }

-- the groups before n had their GroupResets done
record HaveReset (n : ℕ) (m x : Machine) : Type 0 where
  done : (k : ℕ) → k < n → IsLeft (group_at m k).group (group_at x k).group
  others : (k : ℕ) → n ≤ k → group_at x k ≡ group_at m k

resets_keep : (s : Setup) (n : ℕ) (m : Machine) → n ≤ length m.groups →
    HaveReset n m (groups_reset s n m).machine
unfolding groups_reset
resets_keep s zero m l = record { done = λ k b. absurd (omega arith); others = λ k b. refl }
resets_keep s (suc n) m l =
    let so_far = resets_keep s n m (omega arith) in
    let x = (groups_reset s n m).machine in
    let c = core_after_reset s n x in
    let g : PlacedGroup = record { group = c.group; path = c.path } in
    let count = resets_count s n m in
    let P : ℕ → PlacedGroup → Type 0 = λ k y. IsLeft (group_at m k).group y.group in
    let here = subst (λ (y : PlacedGroup). IsLeft y.group g.group)
    (so_far.others n (omega arith))
    (reset_left (group_look s x n 0) (is_some (group_at x n).path) (group_at x n).group) in
    record {
      done = λ k b. elim (cases_eq k n) [
        | inl e ↦ subst (λ j. P j (group_among (slice_set x.groups n g) j)) (sym e)
            (subst (P n) (sym (get_or-set_same x.groups n g no_group (omega arith))) here)
        | inr d ↦ subst (P k) (sym (get_or-set_other x.groups n k g no_group d))
            (so_far.done k (omega arith))
      ];
      others = λ k b. get_or-set_other x.groups n k g no_group (λ e. omega arith)
          ∙ so_far.others k (omega arith);
    }

-- a group is left by its step with an error that its GroupReset keeps, or resets
pub group_kept : (s : Setup) (m : Machine) (ins : List DriveIn) (j : ℕ) → IsMachineKept s m →
    j < length m.groups →
    IsLeft (cycled (look_of_group s m ins j) (group_core_at m j)).group
    (group_at (after_cycle s m ins) j).group
group_kept s m ins j h l =
    let stepped = (stepped_in s ins m).machine in
    let moved = moved_in s m ins in
    let steps = have_stepped s m ins (length m.groups) h (omega arith) in
    let one = steps.each j l in
    let To : GroupLook → Core → Type 0 =
    λ y d. d.group ≡ (cycled y (group_core_at m j)).group in
    let step = subst (λ y. To y (group_core_at stepped j)) one.is
    (ap (λ (d : Core). d.group) one.core) in
    let same : moved.groups ≡ stepped.groups =
    axes_groups s (length stepped.axes) (around_in s ins m) stepped in
    let sizes = steps.size in
    let size = sizes.groups in
    let count = ap length same in
    let reset = resets_keep s (length moved.groups) moved (omega arith) in
    let after = (group_at (after_cycle s m ins) j).group in
    let P : List PlacedGroup → Type 0 = λ gs. IsLeft (group_among gs j).group after in
    let Q : List PlacedGroup → Type 0 =
    λ gs. IsLeft (group_at moved j).group (group_among gs j).group in
    subst (λ (g : Group). IsLeft g after) step
    (subst P same (subst Q (sym (groups_moved s m ins)) (reset.done j (omega arith))))

-- the first of some axes whose drive's answer brings an error
pub record IsFirst (axes : List Axis) (ins : List DriveIn) (ns : List ℕ) : Type 0 where
  pub place : ℕ
  pub there : place < length ns
  pub is : answer_error_of (axis_among axes (member_at ns place)) (answer_at ins (member_at ns place))
      ≡ first_error axes ins ns
  pub before : (p : ℕ) → p < place →
      nat_eq (answer_error_of (axis_among axes (member_at ns p)) (answer_at ins (member_at ns p))) 0
      ≡ true

none_so_far : (axes : List Axis) (ins : List DriveIn) (n : ℕ) (ns : List ℕ) (place : ℕ) →
    nat_eq (answer_error_of (axis_among axes n) (answer_at ins n)) 0 ≡ true →
    ((p : ℕ) → p < place →
    nat_eq (answer_error_of (axis_among axes (member_at ns p)) (answer_at ins (member_at ns p))) 0
    ≡ true) → (p : ℕ) → p < suc place →
    nat_eq (answer_error_of (axis_among axes (member_at (n ∷ ns) p))
    (answer_at ins (member_at (n ∷ ns) p))) 0 ≡ true
none_so_far axes ins n ns place none before zero b = none
none_so_far axes ins n ns place none before (suc p) b = before p (omega arith)

pub first_in : (axes : List Axis) (ins : List DriveIn) (ns : List ℕ) →
    nat_eq (first_error axes ins ns) 0 ≡ false → IsFirst axes ins ns
first_in axes ins [] h = absurd (cc)
first_in axes ins (n ∷ ns) h =
    let error = answer_error_of (axis_among axes n) (answer_at ins n) in
    elim (cases_Bool (nat_eq error 0)) [
      | inl none ↦
          let same : first_error axes ins (n ∷ ns) ≡ first_error axes ins ns =
          ap (λ b. if b then first_error axes ins ns else error) none in
          let later = first_in axes ins ns (ap (λ x. nat_eq x 0) (sym same) ∙ h) in
          let there = later.there in
          record {
            place = suc later.place;
            there = omega arith;
            is = later.is ∙ sym same;
            before = none_so_far axes ins n ns later.place none later.before;
          }
      | inr some ↦ record {
        place = zero;
        there = omega arith;
        is = sym (ap (λ b. if b then first_error axes ins ns else error) some);
        before = λ p b. absurd (omega arith);
      }
    ]

pub read_by : (s : Setup) (m : Machine) (ins : List DriveIn) (n : ℕ) →
    (look_of_axis s m ins n).input ≡ answer_at ins n
unfolding axis_look
read_by s m ins n = refl

axis_answers : WalkLaws → (s : Setup) (m : Machine) (ins : List DriveIn) (n : ℕ) →
    IsMachineKept s m → n < length m.axes →
    nat_eq (answer_error_of (axis_at m n) (answer_at ins n)) 0 ≡ false →
    ((axis_at (after_cycle s m ins) n).error ≡ answer_error_of (axis_at m n) (answer_at ins n))
    ⊎ ((axis_at m n).reset ≢ None)
axis_answers laws s m ins n h l some =
    let look = look_of_axis s m ins n in
    let goes = goes_through s m ins n h (laws.machines.may_go_on s m ins h) l in
    let P : DriveIn → Axis → Type 0 = λ input a.
    (a.error ≡ answer_error_of (axis_at m n) input) ⊎ ((axis_at m n).reset ≢ None) in
    let read = read_by s m ins n in
    subst (P (answer_at ins n)) (sym goes.after)
    (subst (λ input. P input (core_after_cycle look (axis_core_at m n)).axis) read
    (axes.cycle_answers look (axis_core_at m n)
    (ap (λ input. nat_eq (answer_error_of (axis_at m n) input) 0) read ∙ some)))

group_comes : WalkLaws → (s : Setup) (m : Machine) (c : ℕ) (rows : List AxisRow)
    (grows : List GroupRow) (j : ℕ) → IsMachineKept s m → j < length m.groups →
    is_stopped_at m (a_group j) ≡ false →
    is_stopped_at (after_cycle s m (inputs_of rows)) (a_group j) ≡ true →
    IsOfAnAxis s m (after_cycle s m (inputs_of rows)) j
    (error_at (after_cycle s m (inputs_of rows)) (a_group j))
group_comes laws s m c rows grows j h l before now =
    let ins = inputs_of rows in
    let look = look_of_group s m ins j in
    let steps = have_stepped s m ins (length m.groups) h (omega arith) in
    let one = steps.each j l in
    let left = group_kept s m ins j h l in
    let failed = has_failed look (group_core_at m j) before (left.state now) in
    let read : look.error ≡ first_error m.axes ins (members_at s j) =
    subst (λ (y : GroupLook). y.error ≡ first_error m.axes ins (members_at s j)) one.is one.error in
    let first = first_in m.axes ins (members_at s j)
    (ap (λ x. nat_eq x 0) (sym read) ∙ failed.is) in
    let n = member_at (members_at s j) first.place in
    let sizes = h.sized in
    let a = sizes.axes in
    let g = sizes.groups in
    let there = member_there s j first.place sizes.setup (omega arith) first.there in
    let is : answer_error_of (axis_at m n) (answer_at ins n) ≡ look.error = first.is ∙ sym read in
    let shows = axis_answers laws s m ins n h (omega arith)
    (ap (λ x. nat_eq x 0) is ∙ failed.is) in
    let after = (group_at (after_cycle s m ins) j).group in
    let error : look.error ≡ after.error = elim left.error [
      | inl same ↦ sym (same ∙ failed.error)
      | inr out ↦ absurd (cc)
    ] in
    record {
      place = first.place;
      there = first.there;
      has = elim shows [
        | inl e ↦ inl (e ∙ is ∙ error)
        | inr e ↦ inr e
      ];
    }

pub group_cycled : WalkLaws → (s : Setup) (m : Machine) (c : ℕ) (rows : List AxisRow)
    (grows : List GroupRow) (j : ℕ) → IsMachineKept s m → j < length m.groups →
    TellsErrors s m (cycle c rows grows) (a_group j)
group_cycled laws s m c rows grows j h l =
    let ins = inputs_of rows in
    let look = look_of_group s m ins j in
    let core = group_core_at m j in
    let command_state = group.command_state_of core in
    let changes = laws.group in
    let left = group_kept s m ins j h l in
    let keeps = left.error in
    let P = Shows command_state (cycled look core).group.error in
    let told = resets_plain P (group.cycle_changes look core)
    (group_core_at (moved_in s m ins) j) command_state
    (subst (AllTell P) (ap (λ (d : CommandState). d.notes) (changes.cycle look core))
    (cycle_tells look core refl)) in
    record {
      shown = λ k error e.
          let shows = told_in P k error _ told e in
          elim keeps [ inl same ↦ inl (same ∙ shows.1) | inr out ↦ inr out ];
      whose = λ k error e. (told_in P k error _ told e).0;
      stays = λ before now. elim keeps [
        | inl same ↦ same ∙ cycle_error look core before
        | inr out ↦ absurd (cc)
      ];
      comes = λ one before now. group_comes laws s m c rows grows j h l before now;
    }
