-- What a group looks at.
-- for: cycle
use Rattle.std.specs.Prelude.{◌≡◌, refl, ℕ, zero, suc, ◌+◌, ◌<◌, Bool, Option, List, length, map, slice_index_or}
use Rattle.std.proofs.Common.{arith, ap, ◌∙◌}
use Rattle.std.proofs.lemmas.List.{get_or-map}
use Rattle.axis_core.specs.declared.axis.Axis.{Axis}
use Rattle.group_core.specs.declared.look.GroupLook.{GroupLook}
use Rattle.group_core.specs.declared.group.GroupOnPath.{GroupOnPath}
use Rattle.linear_path.specs.declared.line.LinePath.{LinePath}
use Rattle.motion_history.specs.Setup.{Setup}
use Rattle.motion_kernel.specs.looks.GroupLooks.{group_look, look_at_none, with_member, with_members}
use Rattle.motion_kernel.specs.Machine.{Machine, axis_among, group_at, no_group}
use Rattle.motion_kernel.specs.members.Members.{member_at, members_at}
use Rattle.motion_kernel.specs.Seen.{placed}
use Rattle.motion_kernel.specs.calls.Telling.{is_held}

-- nothing is seen at first
pub seen_none : (axes : List Axis) (members : List ℕ) (look : GroupLook) → with_members 0 axes members look ≡ look
unfolding with_members
seen_none axes members look = refl

next_seen : (n : ℕ) (axes : List Axis) (members : List ℕ) (look : GroupLook) →
    with_members (suc n) axes members look ≡ with_member n (axis_among axes (member_at members n)) (with_members n axes members look)
unfolding with_members
next_seen n axes members look = refl

-- one axis more is seen
pub seen_more : (n : ℕ) (axes : List Axis) (members : List ℕ) (look : GroupLook) →
    with_members (n + 1) axes members look ≡ with_member n (axis_among axes (member_at members n)) (with_members n axes members look)
seen_more n axes members look =
    let same : n + 1 ≡ suc n = omega arith in
    ap (λ k. with_members k axes members look) same ∙ next_seen n axes members look

-- a group with its path, as the machine has it
pub group_here : (gs : List (GroupOnPath LinePath)) (j : ℕ) (d : GroupOnPath LinePath) → j < length gs →
    slice_index_or (map placed gs) j no_group ≡ placed (slice_index_or gs j d)
group_here gs j d l = get_or-map placed gs j d no_group l

-- a look is that of the group's axes, its error and its hold
pub look_is : (s : Setup) (m : Machine) (j error : ℕ) (members : List ℕ) (axes : List Axis) (held : Bool) (hold : Option ℕ) →
    members ≡ members_at s j → axes ≡ m.axes → hold ≡ (group_at m j).group.hold → held ≡ is_held m.instances hold →
    with_members (length members) axes members (look_at_none (length members) error held) ≡ group_look s m j error
unfolding group_look
look_is s m j error members axes held hold ms all h e = rw (e, h, ms, all) refl

-- how many axes are seen is reported at first
pub seen_count : (n : ℕ) (axes : List Axis) (members : List ℕ) (look : GroupLook) → (with_members n axes members look).count ≡ look.count
unfolding with_members
seen_count zero axes members look = refl
seen_count (suc n) axes members look = seen_count n axes members look
