-- A group among the kernel's parts, as the machine has it.
-- for: machines_stay_kept
use Rattle.std.specs.Prelude.{◌≡◌, refl, ℕ, ◌<◌, false, [], List, Option, Some, None, is_some, length, map, slice_index_or, slice_set}
use Rattle.std.proofs.Common.{ap, sym, ◌∙◌}
use Rattle.std.proofs.lemmas.List.{map-set, get_or-map, set-get_or}
use Rattle.command_pool.specs.Waiting.{queue_of}
use Rattle.command_pool.specs.declared.notes.Note.{Note}
use Rattle.command_pool.specs.declared.wanted.Wanted.{Wanted}
use Rattle.group_core.specs.Cores.{Core, core_in}
use Rattle.group_core.specs.Cycles.{reset_cycled, reset_where}
use Rattle.group_core.specs.Refusals.{states_in}
use Rattle.group_core.specs.blocks.Reset.{reset_by, reset_notes}
use Rattle.group_core.specs.declared.group.Group.{Group}
use Rattle.group_core.specs.declared.group.Track.{Track}
use Rattle.group_core.specs.declared.look.GroupLook.{GroupLook}
use Rattle.group_core.specs.Seen.{core_at, on_path}
use Rattle.group_core.specs.declared.group.GroupOnPath.{GroupOnPath}
use Rattle.linear_path.specs.declared.line.LinePath.{LinePath}
use Rattle.motion_kernel.specs.calls.Calls.{with_group_core}
use Rattle.motion_kernel.specs.Machine.{Machine, group_at, group_core_at, list_of, no_group}
use Rattle.motion_kernel.specs.Seen.{placed}
use Rattle.motion_kernel.specs.calls.Telling.{told_notes}

-- a group of the parts, as the machine has it
pub group_here : (m : Machine) (gs : List (GroupOnPath LinePath)) (j : ℕ) (g : GroupOnPath LinePath) → m.groups ≡ map placed gs →
    j < length gs → g ≡ slice_index_or gs j g → placed g ≡ group_at m j
group_here m gs j g groups l e =
    ap placed e ∙ sym (get_or-map placed gs j g no_group l) ∙ ap (λ ps. slice_index_or ps j no_group) (sym groups)

-- and with what waits for it
pub core_here : (m : Machine) (gs : List (GroupOnPath LinePath)) (j list : ℕ) (g : GroupOnPath LinePath) → m.groups ≡ map placed gs →
    list ≡ list_of m j → j < length gs → g ≡ slice_index_or gs j g → core_at g m.queues list [] ≡ group_core_at m j
core_here m gs j list g groups at l e =
    let here = group_here m gs j g groups l e in
    λ i. core_in (here i).group (here i).path m.queues (at i) []

-- the parts after an event of a group
pub group_written : (m : Machine) (gs : List (GroupOnPath LinePath)) (j list : ℕ) (g : GroupOnPath LinePath) (pool : List (List Wanted)) (notes : List Note) (c : Core) →
    m.groups ≡ map placed gs → list ≡ list_of m j → core_at g pool list notes ≡ c → pool ≡ slice_set m.queues list (queue_of pool list) →
    record m { groups = map placed (slice_set gs j g); queues = pool; instances = told_notes notes m.instances } ≡ with_group_core m j c
group_written m gs j list g pool notes c groups at e others =
    let here : map placed (slice_set gs j g) ≡ slice_set m.groups j (record { group = c.group; path = c.path }) =
    map-set placed gs j g ∙ (λ i. slice_set (sym groups i) j (record { group = (e i).group; path = (e i).path })) in
    let queues : pool ≡ slice_set m.queues (list_of m j) c.waiting = others ∙ (λ i. slice_set m.queues (at i) (e i).waiting) in
    λ i. record m { groups = here i; queues = queues i; instances = told_notes (e i).notes m.instances }

on_path_there : (t : Option (Track LinePath)) → is_some t ≡ is_some (on_path t)
on_path_there None = refl
on_path_there (Some t) = refl

-- a group after its GroupReset, by what it ensures
pub reset_as : (look : GroupLook) (old new : GroupOnPath LinePath) (queues : List (List Wanted)) (list : ℕ) (notes : List Note) →
    new.group ≡ reset_where look (is_some old.track) old.group → new.track ≡ old.track → notes ≡ reset_notes old.group.reset (is_some old.track) old.group →
    core_at new queues list notes ≡ reset_cycled look (core_at old queues list [])
reset_as look old new queues list notes group track told =
    let some = on_path_there old.track in
    (λ i. core_in (group i) (on_path (track i)) queues list (told i))
    ∙ (λ i. core_in (reset_where look (some i) old.group) (on_path old.track) queues list (reset_notes old.group.reset (some i) old.group))

-- a group that leaves its list as it is
pub same_queue : (queues : List (List Wanted)) (list : ℕ) → queues ≡ slice_set queues list (queue_of queues list)
same_queue queues list = sym (set-get_or queues list [])

-- where no GroupReset is pending, the machine stays
pub no_reset : (look : GroupLook) (m : Machine) (j : ℕ) → (group_at m j).group.reset ≡ None →
    reset_where look (is_some (group_at m j).path) (group_at m j).group ≡ (group_at m j).group
unfolding reset_where
no_reset look m j none = let g = group_at m j in ap (λ r. reset_by r (states_in look) (is_some g.path) g.group) none

pub not_reset : (look : GroupLook) (m : Machine) (j : ℕ) → (group_at m j).group.reset ≡ None → with_group_core m j (reset_cycled look (group_core_at m j)) ≡ m
not_reset look m j none =
    let g = group_at m j in
    let same = no_reset look m j none in
    let groups : slice_set m.groups j (record { group = reset_where look (is_some g.path) g.group; path = g.path }) ≡ m.groups =
    ap (λ (x : Group). slice_set m.groups j (record { group = x; path = g.path })) same ∙ set-get_or m.groups j no_group in
    let told : reset_notes g.group.reset (is_some g.path) g.group ≡ [] = ap (λ r. reset_notes r (is_some g.path) g.group) none in
    λ i. record m { groups = groups i; queues = sym (same_queue m.queues (list_of m j)) i; instances = told_notes (told i) m.instances }

-- what is not there
pub none_where : {X : Type 0} (o : Option X) → is_some o ≡ false → o ≡ None
none_where None e = refl
none_where (Some x) e = absurd (cc)
