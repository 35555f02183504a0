-- What an instance shows of its commands, by counts.
-- for: are_commands_shown
use Rattle.std.specs.Prelude.{◌≡◌, ◌↔◌, refl, ℕ, ◌+◌, ◌<◌, Bool, true, false, not, ◌&&◌, IsTrue, if◌then◌else◌, Option, Some, None, List, [], ◌∷◌, ◌++◌, length, slice_get, slice_index_or, take}
use Rattle.std.proofs.Common.{arith, ap, sym, subst, inl, inr, ◌∙◌}
use Rattle.std.proofs.lemmas.Bool.{cases_Bool, cases_eq}
use Rattle.std.proofs.lemmas.List.{take_more}
use Rattle.std.proofs.lemmas.Option.{get_or_from_slice_get, slice_get_within}
use Rattle.buffer_modes.specs.Owners.{owner_count, waits_of}
use Rattle.command_core.specs.CommandState.{owns}
use Rattle.command_pool.specs.declared.wanted.Wanted.{Wanted}
use Rattle.fb_outputs.specs.Steps.{is_power}
use Rattle.kernel_invariants.specs.Owned.{owners_of}
use Rattle.kernel_invariants.specs.Showing.{ShowsOn, ShowsWhere}
use Rattle.motion_history.specs.Setup.{Setup}
use Rattle.motion_history.specs.declared.config.BlockDef.{BlockDef}
use Rattle.motion_kernel.proofs.owners.commands.Events.{is_itself, same_object}
use Rattle.motion_kernel.specs.Machine.{Machine, instance_at}
use Rattle.motion_kernel.specs.owners.Blocks.{OwnersHaveBlocks, command_state_at}
use Rattle.motion_kernel.specs.owners.Commands.{ActiveAreShown, CommandsAreShown, active_at, active_shown, commands_at, commands_shown}
use Rattle.motion_kernel.specs.owners.Objects.{a_group, an_axis, IsThere, Object, has_commands_on, is_same, object_of}

-- one command more is counted
waits_append : (k : ℕ) (xs ys : List Wanted) →
    waits_of k (xs ++ ys) ≡ waits_of k xs + waits_of k ys
waits_append k [] ys = omega arith
waits_append k (x ∷ xs) ys = let more = waits_append k xs ys in omega arith

pub waits_more : (k : ℕ) (ws : List Wanted) (n : ℕ) (w none : Wanted) → slice_get ws n ≡ Some w →
    waits_of k (take (n + 1) ws) ≡ waits_of k (take n ws) + owner_count k w.owner
waits_more k ws n w none at =
    let is : slice_index_or ws n none ≡ w = get_or_from_slice_get ws n w none at in
    let more : take (n + 1) ws ≡ take n ws ++ w ∷ [] =
    take_more ws n none (slice_get_within ws n w at) ∙ ap (λ y. take n ws ++ y ∷ []) is in
    let sum = ap (waits_of k) more ∙ waits_append k (take n ws) (w ∷ []) in
    omega arith

-- the commands that an instance has, part by part
all_of : (m : Machine) (k : ℕ) (o : Object) → let c = command_state_at m o in
    commands_at m k o ≡ owner_count k (owners_of c).active + waits_of k c.waiting
    + owner_count k (owners_of c).reset
all_of m k (an_axis n) = refl
all_of m k (a_group j) = refl

active_of_it : (m : Machine) (k : ℕ) (o : Object) →
    active_at m k o ≡ owner_count k (owners_of (command_state_at m o)).active
active_of_it m k (an_axis n) = refl
active_of_it m k (a_group j) = refl

-- a block acts on one axis or group
acts_on : (s : Setup) (k : ℕ) (b : BlockDef) (o : Object) → slice_get s.blocks k ≡ Some b →
    is_power b.kind ≡ false → object_of b ≡ o → has_commands_on (slice_get s.blocks k) o ≡ true
acts_on s k b o at other is =
    ap (λ x. has_commands_on x o) at ∙ ap (λ x. not x && is_same (object_of b) o) other
    ∙ ap (λ x. is_same x o) is ∙ is_itself o

acts_only : (s : Setup) (k : ℕ) (b : BlockDef) (o p : Object) → slice_get s.blocks k ≡ Some b →
    is_power b.kind ≡ false → object_of b ≡ o → has_commands_on (slice_get s.blocks k) p ≡ true →
    o ≡ p
acts_only s k b o p at other is on =
    same_object o p
    (sym (ap (λ x. is_same x p) is) ∙ sym (ap (λ x. not x && is_same (object_of b) p) other)
    ∙ sym (ap (λ x. has_commands_on x p) at) ∙ on)

pub shows_by_block : (s : Setup) (m : Machine) (k : ℕ) (b : BlockDef) (o : Object) (t : Bool) →
    slice_get s.blocks k ≡ Some b → is_power b.kind ≡ false → object_of b ≡ o →
    IsTrue t ↔ (IsThere m o → ShowsOn m k o) → IsTrue t ↔ ShowsWhere s m k
shows_by_block s m k b o t at other is test = (
  λ yes p there on.
      let same = acts_only s k b o p at other is on in
      subst (ShowsOn m k) same (test.0 yes (subst (IsThere m) (sym same) there)),
  λ h. test.1 (λ there. h o there (acts_on s k b o at other is)),
)

-- a Power has no commands
pub power_shows : (s : Setup) (m : Machine) (k : ℕ) (b : BlockDef) → slice_get s.blocks k ≡ Some b →
    is_power b.kind ≡ true → ShowsWhere s m k
power_shows s m k b at power o there on =
    absurd (let bad : false ≡ true = sym (ap (λ x. has_commands_on x o) at
    ∙ ap (λ x. not x && is_same (object_of b) o) power) ∙ on in cc)

-- whoever has commands is an instance
instance_there : (s : Setup) (k : ℕ) (o : Object) → has_commands_on (slice_get s.blocks k) o ≡ true →
    k < length s.blocks
instance_there s k o on = by (slice_get s.blocks k) refl on
  where
    by : (b : Option BlockDef) → slice_get s.blocks k ≡ b → has_commands_on b o ≡ true →
        k < length s.blocks
    by None e h = absurd (cc)
    by (Some b) e h = slice_get_within s.blocks k b e

module _ (s : Setup) (m : Machine) (owners : OwnersHaveBlocks s m) where
  counts : (o : Object) (k : ℕ) → commands_at m k o ≡ owns k (command_state_at m o)
  counts (an_axis n) k = omega arith
  counts (a_group j) k = omega arith

  none_at : (k : ℕ) (o : Object) → IsThere m o → has_commands_on (slice_get s.blocks k) o ≡ false →
      commands_at m k o ≡ 0
  none_at k o there off = elim (cases_eq (commands_at m k o) 0) [
    | inl none ↦ none
    | inr some ↦
        let is = counts o k in
        let on = (owners o there k).commands (omega arith) in
        absurd (cc)
  ]

  less : (k : ℕ) (o : Object) → commands_at m k o ≡ 0 → active_at m k o ≡ 0
  less k (an_axis n) none = omega arith
  less k (a_group j) none = omega arith

  pub all_shown : ((k : ℕ) → k < length s.blocks → ShowsWhere s m k) →
      CommandsAreShown s m × ActiveAreShown s m
  all_shown h = (commands, active)
    where
      commands : CommandsAreShown s m
      commands k o there =
          let b = has_commands_on (slice_get s.blocks k) o in
          let shown = commands_shown (instance_at m.instances k).progress in
          let R : Bool → Type 0 = λ x. commands_at m k o ≡ (if x then shown else 0) in
          elim (cases_Bool b) [
            | inl on ↦ subst R (sym on) (h k (instance_there s k o on) o there on).commands
            | inr off ↦ subst R (sym off) (none_at k o there off)
          ]

      active : ActiveAreShown s m
      active k o there =
          let b = has_commands_on (slice_get s.blocks k) o in
          let shown = active_shown (instance_at m.instances k).progress in
          let R : Bool → Type 0 = λ x. active_at m k o ≡ (if x then shown else 0) in
          elim (cases_Bool b) [
            | inl on ↦ subst R (sym on) (h k (instance_there s k o on) o there on).active
            | inr off ↦ subst R (sym off) (less k o (none_at k o there off))
          ]
