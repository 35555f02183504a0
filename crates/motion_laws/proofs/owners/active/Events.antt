-- What an event leaves of the active commands that instances show.
-- for: machines_can_stand, replies_show_commands, commands_are_where_their_instances_show and others
use Rattle.std.specs.Prelude.{◌≡◌, refl, ℕ, ◌+◌, ◌≤◌, false, nat_eq, if◌then◌else◌, List, slice_get, slice_set}
use Rattle.std.proofs.Common.{arith, ap, sym, subst, ◌∙◌, inl, inr}
use Rattle.std.proofs.lemmas.Bool.{cases_Bool, cases_eq, eqb-false, eqb-true}
use Rattle.std.proofs.lemmas.List.{get_or-set_other}
use Rattle.buffer_modes.specs.Owners.{ends_given}
use Rattle.command_pool.specs.declared.notes.Note.{Note}
use Rattle.fb_outputs.specs.InstanceState.{InstanceState}
use Rattle.fb_outputs.specs.declared.instance.Progress.{Progress}
use Rattle.fb_outputs.specs.declared.instance.Progress.TheVariants.{Idle, Waiting, Active, Ended}
use Rattle.motion_history.specs.Setup.{Setup}
use Rattle.motion_kernel.specs.calls.Calls.{with_instance}
use Rattle.motion_kernel.specs.Machine.{Machine, instance_at, no_instance}
use Rattle.motion_kernel.specs.owners.Commands.{ActiveAreShown, CommandsAreShown, active_at, active_shown, commands_at, commands_shown}
use Rattle.motion_kernel.specs.owners.Objects.{IsThere, Object, has_commands_on, is_same, a_group, an_axis}
use Rattle.command_core.specs.CommandState.{waiting_of}
use Rattle.motion_kernel.proofs.walk.Keeps.{command_state_at}
use Rattle.motion_kernel.proofs.owners.Counts.{told_shows_none, shown_by, untold_stays}
use Rattle.motion_kernel.proofs.owners.commands.Events.{Changes, ShownOf, event_shown, none_if, same_object}

-- commands are where their instances show, apart from holds
pub record AreTrulyShown (s : Setup) (m : Machine) : Type 0 where
  pub commands : CommandsAreShown s m
  pub active : ActiveAreShown s m

-- whether an instance of these shows that its command is active
abbrev pub active_by : List InstanceState → ℕ → ℕ
active_by is k = active_shown (instance_at is k).progress

-- how many commands of an instance wait for an axis or group, a reset among them
abbrev pub waits_at : Machine → ℕ → Object → ℕ
waits_at m k o = waiting_of k (command_state_at m o)

-- commands are active or wait
pub all_are : (m : Machine) (k : ℕ) (o : Object) → commands_at m k o ≡ active_at m k o + waits_at m k o
all_are m k (an_axis n) = omega arith
all_are m k (a_group j) = omega arith

pub no_more_than_shown : (p : Progress) → active_shown p ≤ commands_shown p
no_more_than_shown Idle = omega arith
no_more_than_shown Waiting = omega arith
no_more_than_shown Active = omega arith
no_more_than_shown (Ended f shown) = omega arith

-- an instance shows Active exactly while its command is the active one
abbrev pub ActiveOf : Setup → ℕ → Machine → Type 0
ActiveOf s k m = (o : Object) → IsThere m o →
    active_at m k o ≡
    (if has_commands_on (slice_get s.blocks k) o then active_by m.instances k else 0)

-- who shows no command has none that is active
pub none_is_active : (s : Setup) (k : ℕ) (m : Machine) → ShownOf s k m → shown_by m.instances k ≡ 0 →
    ActiveOf s k m
none_is_active s k m shown none o there =
    let b = has_commands_on (slice_get s.blocks k) o in
    let all = all_are m k o in
    let zero_if : commands_at m k o ≡ 0 = shown o there ∙ sym
    (none_if b (shown_by m.instances k) 0 none refl) in
    let most = no_more_than_shown (instance_at m.instances k).progress in
    none_if b (active_by m.instances k) (active_at m k o) (omega arith) (omega arith)

-- an event at one object, by which an instance has no more commands than before
pub record KeepsActive (k : ℕ) (m x : Machine) (o : Object) : Type 0 where
  pub active : active_at x k o ≤ active_at m k o
  pub waiting : waits_at x k o ≤ waits_at m k o
  pub beside : (p : Object) → IsThere m p → is_same o p ≡ false → active_at x k p ≡ active_at m k p

untold_active : (s : Setup) (k : ℕ) (m x : Machine) (o : Object) (ns : List Note) →
    Changes k m x o ns → KeepsActive k m x o → ends_given k ns ≡ 0 →
    ActiveOf s k m → ActiveOf s k x
untold_active s k m x o ns h keeps none active p there =
    let b = has_commands_on (slice_get s.blocks k) p in
    let was = h.as_many p there in
    let all = h.here in
    let before = all_are m k o in
    let now = all_are x k o in
    let l = keeps.active in
    let w = keeps.waiting in
    let stays : active_at x k p ≡ active_at m k p = elim (cases_Bool (is_same o p)) [
      | inl e ↦ subst (λ q. active_at x k q ≡ active_at m k q) (same_object o p e) (omega arith)
      | inr d ↦ keeps.beside p was d
    ] in
    let same : active_by x.instances k ≡ active_by m.instances k =
    ap (λ is. active_by is k) h.told ∙ ap (λ (i : InstanceState). active_shown i.progress)
    (untold_stays k ns m.instances none) in
    stays ∙ active p was ∙ ap (λ n. if b then n else 0) (sym same)

pub event_active : (s : Setup) (k : ℕ) (m x : Machine) (o : Object) (ns : List Note) →
    Changes k m x o ns → KeepsActive k m x o → ShownOf s k m → ActiveOf s k m →
    ActiveOf s k x
event_active s k m x o ns h keeps shown active = elim (cases_eq (ends_given k ns) 0) [
  | inl e ↦ untold_active s k m x o ns h keeps e active
  | inr d ↦
      none_is_active s k x (event_shown s k m x o ns h shown)
      (ap (λ is. shown_by is k) h.told ∙ told_shows_none k ns m.instances (omega arith))
]

-- where nothing else changes than what an instance shows not
pub instances_active : (s : Setup) (k : ℕ) (m : Machine) (is : List InstanceState) →
    active_by is k ≡ active_by m.instances k → ActiveOf s k m →
    ActiveOf s k (record m { instances = is })
instances_active s k m is e active (an_axis n) there = active (an_axis n) there ∙ ap
    (λ x. if has_commands_on (slice_get s.blocks k) (an_axis n) then x else 0) (sym e)
instances_active s k m is e active (a_group j) there = active (a_group j) there ∙ ap
    (λ x. if has_commands_on (slice_get s.blocks k) (a_group j) then x else 0) (sym e)

pub beside_active : (s : Setup) (j k : ℕ) (m : Machine) (i : InstanceState) → nat_eq k j ≡ false →
    ActiveOf s j m → ActiveOf s j (with_instance m k i)
beside_active s j k m i d active =
    instances_active s j m (slice_set m.instances k i)
    (ap (λ (x : InstanceState). active_shown x.progress)
    (get_or-set_other m.instances k j i no_instance (λ e. eqb-false k j d (sym e)))) active

-- instances change no command
pub active_same : (m : Machine) (is : List InstanceState) (k : ℕ) (o : Object) → active_at
    (record m { instances = is }) k o ≡ active_at m k o
active_same m is k (an_axis n) = refl
active_same m is k (a_group j) = refl

pub all_active : (s : Setup) (k : ℕ) (m : Machine) → ActiveOf s k m →
    ((j : ℕ) → nat_eq k j ≡ false → ActiveOf s j m) → ActiveAreShown s m
all_active s k m own others j = elim (cases_Bool (nat_eq k j)) [
  | inl e ↦ subst (λ x. ActiveOf s x m) (eqb-true k j e) own
  | inr d ↦ others j d
]
