-- An event leaves an instance that has no command there.
-- for: replies_show_commands, entries_make_outcomes, results_are_told and others
use Rattle.std.specs.Prelude.{◌≡◌, refl, ℕ, ◌≤◌, Bool, true, false, nat_eq, if◌then◌else◌, List, slice_get}
use Rattle.std.proofs.Common.{arith, ap, sym, ◌∙◌}
use Rattle.std.proofs.lemmas.Bool.{eqb-false}
use Rattle.std.proofs.lemmas.List.{get_or-set_other}
use Rattle.command_pool.specs.declared.ending.Finish.{Finish}
use Rattle.command_pool.specs.declared.notes.Note.{Note}
use Rattle.fb_outputs.specs.InstanceState.{InstanceState}
use Rattle.fb_outputs.specs.declared.instance.Progress.{Progress}
use Rattle.fb_outputs.specs.declared.instance.Progress.TheVariants.{Ended}
use Rattle.motion_history.specs.Setup.{Setup}
use Rattle.motion_kernel.specs.Machine.{Machine, instance_at, no_instance}
use Rattle.motion_kernel.specs.calls.Calls.{with_instance}
use Rattle.motion_kernel.specs.owners.Objects.{IsThere, Object, has_commands_on}
use Rattle.motion_kernel.specs.owners.Commands.{commands_at, commands_shown}
use Rattle.motion_kernel.proofs.owners.Counts.{untold_stays}
use Rattle.motion_kernel.proofs.owners.commands.Events.{Changes, ShownOf, most_one}

-- how far an instance's command is
abbrev pub progress_in : List InstanceState → ℕ → Progress
progress_in is k = (instance_at is k).progress

-- an instance that was given an end which no call has shown
abbrev pub HasEnded : Finish → ℕ → Machine → Type 0
HasEnded f k m = progress_in m.instances k ≡ Ended f false

-- the instance of another call
pub beside : (m : Machine) (k j : ℕ) (i : InstanceState) → nat_eq k j ≡ false →
    instance_at (with_instance m k i).instances j ≡ instance_at m.instances j
beside m k j i d = get_or-set_other m.instances k j i no_instance (λ e. eqb-false k j d (sym e))

-- an instance has no command of an object
abbrev pub IsSpared : Setup → ℕ → List InstanceState → Object → Type 0
IsSpared s k is o =
    (if has_commands_on (slice_get s.blocks k) o then commands_shown (progress_in is k) else 0) ≡ 0

-- and an event there leaves it as it was
pub event_spares : (s : Setup) (k : ℕ) (m x : Machine) (o : Object) (ns : List Note) →
    Changes k m x o ns → ShownOf s k m → IsSpared s k m.instances o →
    instance_at x.instances k ≡ instance_at m.instances k
event_spares s k m x o ns h shown spared =
    let none = shown o h.there ∙ spared in
    let all = h.here in
    ap (λ is. instance_at is k) h.told ∙ untold_stays k ns m.instances (omega arith)

-- an instance that shows no command has none
pub none_spared : (s : Setup) (k : ℕ) (is : List InstanceState) (o : Object) →
    commands_shown (progress_in is k) ≡ 0 → IsSpared s k is o
none_spared s k is o none = if_none (has_commands_on (slice_get s.blocks k) o)
    (commands_shown (progress_in is k)) none
  where
    if_none : (b : Bool) (n : ℕ) → n ≡ 0 → (if b then n else 0) ≡ 0
    if_none true n e = e
    if_none false n e = refl

-- it has one command there at most
pub one_there : (s : Setup) (k : ℕ) (m : Machine) (o : Object) → ShownOf s k m → IsThere m o →
    commands_at m k o ≤ 1
one_there s k m o shown there =
    let all = shown o there in
    let most = most_one (progress_in m.instances k) in
    let few = if_few (has_commands_on (slice_get s.blocks k) o)
    (commands_shown (progress_in m.instances k)) most in
    omega arith
  where
    if_few : (b : Bool) (n : ℕ) → n ≤ 1 → (if b then n else 0) ≤ 1
    if_few true n l = l
    if_few false n l = omega arith
