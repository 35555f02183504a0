-- What the groups of a kept machine make of it by their steps in a cycle.
-- for: rows_are_counted, machines_stay_kept
use Rattle.std.specs.Prelude.{◌≡◌, refl, ℕ, zero, suc, ◌<◌, ◌≤◌, List, [], length, map}
use Rattle.std.proofs.Common.{arith, ap, sym, subst, ◌∙◌, inl, inr}
use Rattle.std.proofs.lemmas.Bool.{cases_eq}
use Rattle.std.proofs.lemmas.List.{get_or-set_other, length_push}
use Rattle.plc_types.specs.declared.drive.DriveIn.{DriveIn}
use Rattle.command_pool.specs.Waiting.{queue_of}
use Rattle.group_core.specs.Cores as group_cores
use Rattle.group_core.specs.Cycles.{cycled, step_of}
use Rattle.group_core.specs.GroupKept as group
use Rattle.group_core.specs.Refusals.{limits_in}
use Rattle.group_core.specs.declared.look.GroupLook.{GroupLook}
use Rattle.motion_history.specs.Setup.{Setup}
use Rattle.motion_kernel.specs.cycles.GroupSteps.{GroupsStepped, after_group_step, error_of_group, group_stepped, groups_stepped, look_in_cycle}
use Rattle.motion_kernel.specs.looks.DriveAnswers.{first_error}
use Rattle.motion_kernel.specs.looks.AxisLooks.{step_at}
use Rattle.motion_kernel.specs.looks.GroupLooks.{group_look}
use Rattle.motion_kernel.specs.Machine.{Machine, group_at, group_core_at, list_of}
use Rattle.motion_kernel.specs.kept.Machine.{IsMachineKept, limits_of}
use Rattle.motion_kernel.specs.members.Members.{members_at}
use Rattle.motion_kernel.specs.kept.Ready.{MayStep}
use Rattle.motion_kernel.proofs.kept.Events.{IsAsLarge, group_beside_group, group_event_size, group_written, instances_kept}
use Rattle.motion_kernel.proofs.looks.Shown.{told_error}
use Rattle.motion_kernel.proofs.Lists.{index_before, index_last}
use Rattle.motion_kernel.proofs.kept.Ready.{few_members, limits_shown, may_look}

-- a group looks alike at machines with the same axes and instances, if its hold is the same
look_same : (s : Setup) (m after : Machine) (j error : ℕ) → after.axes ≡ m.axes → after.instances ≡ m.instances →
    (group_at after j).group.hold ≡ (group_at m j).group.hold → group_look s after j error ≡ group_look s m j error
unfolding group_look
look_same s m after j error axes instances hold = rw (hold, axes, instances) refl

-- a group that may look, as it is, and its limits
pub record IsLooking (s : Setup) (m : Machine) (j : ℕ) (look : GroupLook) : Type 0 where
  pub fits : group.IsLook (group_at m j).group look
  pub kept : group.IsCoreKept (limits_in look) (group_core_at m j)
  pub limits : limits_in look ≡ map (limits_of s) (members_at s j)

-- the look of a group at a machine whose axes are those of a kept one, and which has the group as
-- it was
looks_at : (s : Setup) (m after : Machine) (j error : ℕ) → IsMachineKept s m → j < length m.groups → after.axes ≡ m.axes →
    length after.instances ≡ length m.instances → (group_at after j).group.hold ≡ (group_at m j).group.hold →
    IsLooking s m j (group_look s after j error)
looks_at s m after j error h l axes size hold =
    let told = record m { instances = after.instances } in
    let kept = instances_kept s m after.instances h size in
    let may = may_look s told j error kept l in
    let limits = limits_shown s told j error kept l (few_members s m j h l) in
    let same = look_same s told after j error axes refl hold in
    let here : IsLooking s m j (group_look s told j error) = record { fits = may.look; kept = may.kept; limits = limits } in
    subst (IsLooking s m j) (sym same) here

-- a group after its step
pub record HasStepped (s : Setup) (m : Machine) (ins : List DriveIn) (g : GroupsStepped) (j : ℕ) : Type 0 where
  pub seen : GroupLook
  pub is : seen ≡ look_in_cycle s ins j (groups_stepped s j ins m).machine
  pub looking : IsLooking s m j seen
  pub error : seen.error ≡ error_of_group s m ins j
  pub core : group_core_at g.machine j ≡ record (cycled seen (group_core_at m j)) { notes = [] }
  pub step : step_at g.steps j ≡ step_of seen (group_core_at m j)

-- the first n groups of a kept machine have taken their steps
pub record HaveStepped (s : Setup) (m : Machine) (ins : List DriveIn) (n : ℕ) (g : GroupsStepped) : Type 0 where
  pub axes : g.machine.axes ≡ m.axes
  pub size : IsAsLarge m g.machine
  pub queues : (k : ℕ) → k < length m.axes → queue_of g.machine.queues k ≡ queue_of m.queues k
  pub later : (j : ℕ) → n ≤ j → group_core_at g.machine j ≡ group_core_at m j
  pub count : length g.steps ≡ n
  pub each : (j : ℕ) → j < n → HasStepped s m ins g j

pub larger : (a b c : Machine) → IsAsLarge a b → IsAsLarge b c → IsAsLarge a c
larger a b c h k = record {
  axes = k.axes ∙ h.axes;
  groups = k.groups ∙ h.groups;
  queues = k.queues ∙ h.queues;
  instances = k.instances ∙ h.instances;
}

stepped_before : (s : Setup) (m : Machine) (ins : List DriveIn) (n j : ℕ) (g : GroupsStepped) → HaveStepped s m ins n g → j < n →
    HasStepped s m ins (group_stepped s ins n g) j
stepped_before s m ins n j g h l =
    let a = h.each j l in
    let c = cycled (look_in_cycle s ins n g.machine) (group_core_at g.machine n) in
    let count = h.count in
    record {
      seen = a.seen;
      is = a.is;
      looking = a.looking;
      error = a.error;
      core = group_beside_group g.machine n j c (λ e. omega arith) ∙ a.core;
      step = index_before g.steps _ j _ (omega arith) ∙ a.step;
    }

stepped_here : (s : Setup) (m : Machine) (ins : List DriveIn) (n : ℕ) (g : GroupsStepped) → IsMachineKept s m → n < length m.groups →
    HaveStepped s m ins n g → g ≡ groups_stepped s n ins m → HasStepped s m ins (group_stepped s ins n g) n
stepped_here s m ins n g h l so_far is =
    let sizes = h.sized in
    let s1 = sizes.axes in
    let s2 = sizes.groups in
    let s3 = sizes.queues in
    let size = so_far.size in
    let t1 = size.axes in
    let t2 = size.groups in
    let t3 = size.queues in
    let count = so_far.count in
    let same = so_far.later n (omega arith) in
    let look = look_in_cycle s ins n g.machine in
    let error = error_of_group s g.machine ins n in
    record {
      seen = look;
      is = ap (λ (x : GroupsStepped). look_in_cycle s ins n x.machine) is;
      looking = looks_at s m g.machine n error h l so_far.axes size.instances (ap (λ (c : group_cores.Core). c.group.hold) same);
      error = told_error s g.machine n error ∙ ap (λ axes. first_error axes ins (members_at s n)) so_far.axes;
      core = group_written g.machine n (cycled look (group_core_at g.machine n)) (omega arith) (omega arith)
          ∙ ap (λ c. record (cycled look c) { notes = [] }) same;
      step = index_last g.steps (step_of look (group_core_at g.machine n)) n _ (sym count) ∙ ap (step_of look) same;
    }

stepped_more : (s : Setup) (m : Machine) (ins : List DriveIn) (n : ℕ) (g : GroupsStepped) → IsMachineKept s m → n < length m.groups →
    HaveStepped s m ins n g → g ≡ groups_stepped s n ins m → HaveStepped s m ins (suc n) (group_stepped s ins n g)
stepped_more s m ins n g h l so_far is =
    let size = so_far.size in
    let t1 = size.axes in
    let count = so_far.count in
    let look = look_in_cycle s ins n g.machine in
    let c = cycled look (group_core_at g.machine n) in
    record {
      axes = so_far.axes;
      size = larger m g.machine (after_group_step s ins n g.machine) size (group_event_size g.machine n c);
      queues = λ k b. get_or-set_other g.machine.queues (list_of g.machine n) k c.waiting [] (λ e. omega arith) ∙ so_far.queues k b;
      later = λ j b. group_beside_group g.machine n j c (λ e. omega arith) ∙ so_far.later j (omega arith);
      count = let p = length_push g.steps (step_of look (group_core_at g.machine n)) in omega (arith, p);
      each = λ j b. elim (cases_eq j n) [
        | inl e ↦ subst (HasStepped s m ins (group_stepped s ins n g)) (sym e) (stepped_here s m ins n g h l so_far is)
        | inr d ↦ stepped_before s m ins n j g so_far (omega arith)
      ];
    }

-- the groups of a kept machine take their steps one after another
pub have_stepped : (s : Setup) (m : Machine) (ins : List DriveIn) (n : ℕ) → IsMachineKept s m → n ≤ length m.groups →
    HaveStepped s m ins n (groups_stepped s n ins m)
unfolding groups_stepped
have_stepped s m ins zero h l = record {
  axes = refl;
  size = record { axes = refl; groups = refl; queues = refl; instances = refl };
  queues = λ k b. refl;
  later = λ j b. refl;
  count = refl;
  each = λ j b. absurd (omega arith);
}
have_stepped s m ins (suc n) h l = stepped_more s m ins n (groups_stepped s n ins m) h (omega arith) (have_stepped s m ins n h (omega arith)) refl

-- each may take its step
pub may_step : (s : Setup) (m : Machine) (ins : List DriveIn) → IsMachineKept s m → MayStep s ins m
may_step s m ins h j l =
    let so_far = have_stepped s m ins j h (omega arith) in
    let g = groups_stepped s j ins m in
    let error = error_of_group s g.machine ins j in
    let same = so_far.later j (omega arith) in
    let at = looks_at s m g.machine j error h l so_far.axes (so_far.size).instances (ap (λ (c : group_cores.Core). c.group.hold) same) in
    let look = group_look s g.machine j error in
    record {
      look = subst (λ (c : group_cores.Core). group.IsLook c.group look) (sym same) at.fits;
      kept = subst (group.IsCoreKept (limits_in look)) (sym same) at.kept;
    }
