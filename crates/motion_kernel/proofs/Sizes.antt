-- How many parts the machine has.
-- for: rows_are_counted, owners_have_blocks, machines_stay_kept and others
use Rattle.std.specs.Prelude.{◌≡◌, ℕ, ◌<◌, Bool, true, false, if◌then◌else◌, Option, Some, None, Result, List, [], ◌∷◌, length}
use Rattle.std.proofs.Common.{arith, ◌∙◌}
use Rattle.std.proofs.lemmas.List.{length-map, length-set}
use Rattle.axis_core.specs.Cores as axis
use Rattle.command_pool.specs.declared.ending.Refusal.{Refusal}
use Rattle.plc_types.specs.declared.kind.BlockKind.{BlockKind}
use Rattle.command_pool.specs.declared.notes.Note.{Note}
use Rattle.fb_outputs.specs.InstanceState.{InstanceState}
use Rattle.group_core.specs.Cores as group
use Rattle.motion_history.specs.Setup.{Setup}
use Rattle.motion_kernel.specs.calls.Calls.{axes_led, enters_path, leaves_path, members_led, with_axis_core, with_group_core, with_instance, without_owner}
use Rattle.motion_history.specs.declared.config.BlockDef.{BlockDef}
use Rattle.motion_kernel.specs.cycles.Showing.{found_by, instance_found, told_found}
use Rattle.motion_kernel.specs.Machine.{Machine}
use Rattle.motion_kernel.specs.kept.Machine.{IsSized}
use Rattle.motion_kernel.specs.members.Members.{members_at}
use Rattle.motion_kernel.specs.calls.Telling.{told_notes}

-- what holds of both holds of the one that is chosen
pub by_if : {X : Type 0} (P : X → Type 0) (b : Bool) (x y : X) → P x → P y → P (if b then x else y)
by_if P true x y p q = p
by_if P false x y p q = q

-- reporting leaves the number of instances
pub told_length : (ns : List Note) (is : List InstanceState) → length (told_notes ns is) ≡ length is
told_length [] is = omega arith
told_length (n ∷ ns) is = told_length ns _ ∙ length-set is _ _

-- so do an axis's, a group's and an instance's events
pub sized_axis : (s : Setup) (m : Machine) (n : ℕ) (c : axis.Core) → IsSized s m → IsSized s (with_axis_core m n c)
sized_axis s m n c h = record {
  setup = h.setup;
  axes = length-set m.axes _ _ ∙ h.axes;
  groups = h.groups;
  queues = length-set m.queues _ _ ∙ h.queues;
  instances = told_length c.notes m.instances ∙ h.instances;
}

pub sized_group : (s : Setup) (m : Machine) (j : ℕ) (c : group.Core) → IsSized s m → IsSized s (with_group_core m j c)
sized_group s m j c h = record {
  setup = h.setup;
  axes = h.axes;
  groups = length-set m.groups _ _ ∙ h.groups;
  queues = length-set m.queues _ _ ∙ h.queues;
  instances = told_length c.notes m.instances ∙ h.instances;
}

pub sized_instance : (s : Setup) (m : Machine) (k : ℕ) (i : InstanceState) → IsSized s m → IsSized s (with_instance m k i)
sized_instance s m k i h = record {
  setup = h.setup;
  axes = h.axes;
  groups = h.groups;
  queues = h.queues;
  instances = length-set m.instances _ _ ∙ h.instances;
}

-- there are at most 20 lists
pub few_lists : (s : Setup) (m : Machine) → IsSized s m → length m.queues < 256
few_lists s m h =
    let a = h.setup.within.sizes.axes in
    let g = h.setup.within.sizes.groups in
    let q = h.queues in
    omega arith

pub told_found_length : (f : Option Bool) (k : ℕ) (is : List InstanceState) → length (told_found f k is) ≡ length is
told_found_length None k is = omega arith
told_found_length (Some b) k is = length-set is _ _

pub sized_found : (s : Setup) (m : Machine) (k : ℕ) (b : BlockDef) → IsSized s m →
    IsSized s (record m { instances = instance_found (Some b) m.axes m.groups k m.instances })
sized_found s m k b h = record {
  setup = h.setup;
  axes = h.axes;
  groups = h.groups;
  queues = h.queues;
  instances = told_found_length (found_by b.kind m.axes m.groups k b.object) k m.instances ∙ h.instances;
}

-- axes that are led are as many as before
pub sized_led : (s : Setup) (on : Bool) (members : List ℕ) (m : Machine) → IsSized s m → IsSized s (axes_led on members m)
sized_led s on [] m h = h
sized_led s on (n ∷ ns) m h = sized_led s on ns _ (record {
  setup = h.setup;
  axes = length-set m.axes _ _ ∙ h.axes;
  groups = h.groups;
  queues = h.queues;
  instances = h.instances;
})

pub sized_members : (s : Setup) (j : ℕ) (kind : BlockKind) (answer : Result Bool Refusal) (m : Machine) → IsSized s m →
    IsSized s (members_led s j kind answer m)
sized_members s j kind answer m h =
    by_if (IsSized s) (enters_path answer) _ _ (sized_led s true (members_at s j) m h)
    (by_if (IsSized s) (leaves_path kind answer) _ _ (sized_led s false (members_at s j) m h) h)

-- an owner that is taken away leaves the machine its parts
pub sized_without : (s : Setup) (k : ℕ) (m : Machine) → IsSized s m → IsSized s (without_owner k m)
unfolding without_owner
sized_without s k m h = record {
  setup = h.setup;
  axes = length-map m.axes _ ∙ h.axes;
  groups = length-map m.groups _ ∙ h.groups;
  queues = length-map m.queues _ ∙ h.queues;
  instances = h.instances;
}
