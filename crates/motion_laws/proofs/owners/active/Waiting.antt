-- In a cycle, who shows Active has no command that waits.
-- for: machines_can_stand, replies_show_commands, commands_are_where_their_instances_show and others
use Rattle.std.specs.Prelude.{◌≡◌, ℕ, ◌+◌, ◌≤◌, Bool, true, false, if◌then◌else◌, List, slice_get}
use Rattle.std.proofs.Common.{arith, ap, sym, subst, ◌∙◌, inl, inr}
use Rattle.std.proofs.lemmas.Bool.{cases_Bool, cases_eq}
use Rattle.buffer_modes.specs.Owners.{ends_given}
use Rattle.command_pool.specs.declared.notes.Note.{Note}
use Rattle.fb_outputs.specs.InstanceState.{InstanceState}
use Rattle.motion_history.specs.Setup.{Setup}
use Rattle.motion_kernel.specs.Machine.{Machine, instance_at}
use Rattle.motion_kernel.specs.owners.Commands.{ActiveAreShown, CommandsAreShown, active_at, active_shown, commands_at}
use Rattle.motion_kernel.specs.owners.Objects.{IsThere, Object, has_commands_on, is_same}
use Rattle.motion_kernel.proofs.owners.Counts.{told_shows_none, shown_by, untold_stays}
use Rattle.motion_kernel.proofs.owners.commands.Events.{Changes, ShownOf, event_shown, most_one, same_object}
use Rattle.motion_laws.proofs.owners.active.Events.{active_by, waits_at, all_are, no_more_than_shown}

-- in a cycle, who shows Active has no command that waits
abbrev pub WaitsOf : Setup → ℕ → Machine → Type 0
WaitsOf s k m = (o : Object) → IsThere m o → active_by m.instances k + waits_at m k o ≤ 1

one_waits : (b : Bool) (a w shown act : ℕ) → a + w ≡ (if b then shown else 0) → a ≡
    (if b then act else 0) → shown ≤ 1 → act ≤ 1 → act + w ≤ 1
one_waits true a w shown act e f l m = omega arith
one_waits false a w shown act e f l m = omega arith

pub waits_first : (s : Setup) (m : Machine) → CommandsAreShown s m → ActiveAreShown s m → (k : ℕ) →
    WaitsOf s k m
waits_first s m h active k o there =
    let most = most_one (instance_at m.instances k).progress in
    let less = no_more_than_shown (instance_at m.instances k).progress in
    one_waits (has_commands_on (slice_get s.blocks k) o) (active_at m k o) (waits_at m k o)
    (shown_by m.instances k) (active_by m.instances k)
    (sym (all_are m k o) ∙ h k o there) (active k o there) most (omega arith)

-- what an event of a cycle leaves of those that wait
pub record KeepsWaiting (k : ℕ) (m x : Machine) (o : Object) : Type 0 where
  pub waiting : waits_at x k o ≤ waits_at m k o
  pub beside : (p : Object) → IsThere m p → is_same o p ≡ false → waits_at x k p ≡ waits_at m k p

pub at_most : (b : Bool) (c n : ℕ) → c ≡ (if b then n else 0) → n ≤ 1 → c ≤ 1
at_most true c n e l = omega arith
at_most false c n e l = omega arith

pub event_waits : (s : Setup) (k : ℕ) (m x : Machine) (o : Object) (ns : List Note) →
    Changes k m x o ns → KeepsWaiting k m x o → ShownOf s k m → WaitsOf s k m → WaitsOf s k x
event_waits s k m x o ns h keeps shown waits p there = elim (cases_eq (ends_given k ns) 0) [
  | inl e ↦
      let was = h.as_many p there in
      let same : active_by x.instances k ≡ active_by m.instances k =
      ap (λ is. active_by is k) h.told ∙ ap (λ (i : InstanceState). active_shown i.progress)
      (untold_stays k ns m.instances e) in
      let before = waits p was in
      let less : waits_at x k p ≤ waits_at m k p = elim (cases_Bool (is_same o p)) [
        | inl q ↦ subst (λ y. waits_at x k y ≤ waits_at m k y) (same_object o p q) keeps.waiting
        | inr d ↦ let b = keeps.beside p was d in omega arith
      ] in
      omega arith
  | inr d ↦
      let none = ap (λ is. shown_by is k) h.told ∙ told_shows_none k ns m.instances (omega arith) in
      let now = event_shown s k m x o ns h shown p there in
      let all = all_are x k p in
      let less = no_more_than_shown (instance_at x.instances k).progress in
      let most = at_most (has_commands_on (slice_get s.blocks k) p) (commands_at x k p)
      (shown_by x.instances k) now (most_one (instance_at x.instances k).progress) in
      omega arith
]
