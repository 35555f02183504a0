-- Whoever has a command, or holds an axis or a group in stopping, is an instance whose block acts
-- there: at opening, and what every event keeps.
-- for: owners_have_blocks
use Rattle.std.specs.Prelude.{◌≡◌, refl, ℕ, ◌+◌, ◌<◌, Bool, true, false, nat_eq, if◌then◌else◌, Option, Some, None, List, [], slice_get}
use Rattle.std.proofs.Common.{arith, ap, sym, subst, inl, inr}
use Rattle.std.proofs.lemmas.Bool.{cases_Bool, cases_eq, eqb-true}
use Rattle.buffer_modes.specs.Owners.{ends_given}
use Rattle.command_core.specs.Brought.{BringNone, brought}
use Rattle.command_core.specs.Changes.{Change, all_changed}
use Rattle.command_core.specs.CommandState.{CommandState, disowned, owns}
use Rattle.command_core.specs.Laws.{AreToldOnce, HaveCommands}
use Rattle.command_pool.specs.Waiting.{without}
use Rattle.motion_history.specs.Setup.{Setup}
use Rattle.motion_kernel.specs.Machine.{Machine}
use Rattle.motion_kernel.specs.calls.Calls.{after_reply, with_execute}
use Rattle.motion_kernel.specs.cycles.Showing.{with_found}
use Rattle.motion_kernel.specs.owners.Blocks.{HasOnly, OwnersHaveBlocks, command_state_at}
use Rattle.motion_kernel.specs.owners.Objects.{a_group, an_axis, Object, has_commands_on, is_same}
use Rattle.motion_kernel.proofs.owners.commands.Events.{same_object}
use Rattle.motion_kernel.proofs.walk.Events.{executed_alike, found_alike, freed_at, freed_there, replied_alike}
use Rattle.motion_kernel.proofs.walk.Keeps.{Alike, Anyone, Asks, Event, Keeps, WalkLaws, freed}

-- nothing is reported yet
pub untold : (m : Machine) (o : Object) → (command_state_at m o).notes ≡ []
untold m (an_axis n) = refl
untold m (a_group j) = refl

abbrev HasBlock : Setup → ℕ → Object → CommandState → Type 0
HasBlock s k o c = HasOnly k c (has_commands_on (slice_get s.blocks k) o ≡ true)

alike_has : (s : Setup) (m x : Machine) → Alike m x → OwnersHaveBlocks s m → OwnersHaveBlocks s x
alike_has s m x a h p there k =
    let was = a.as_many p there in
    subst (HasBlock s k p) (sym (a.same p)) (h p was k)

hold_without : (k j : ℕ) (o : Option ℕ) → without k o ≡ Some j → o ≡ Some j
hold_without k j None e = e
hold_without k j (Some n) e = by (nat_eq n k) e
  where
    by : (b : Bool) → (if b then None else Some n) ≡ Some j → Some n ≡ Some j
    by true e = absurd (cc)
    by false e = e

module _ (laws : WalkLaws) (once : AreToldOnce) (hold : HaveCommands) where
  has_changed : (k : ℕ) (xs : List Change) (c : CommandState) (X : Type 0) → c.notes ≡ [] → (0 < brought k xs → X) → HasOnly k c X →
      HasOnly k (record (all_changed xs c) { notes = [] }) X
  has_changed k xs c X none brings h = record { commands = commands; holds = holds }
    where
      some : 0 < owns k c + brought k xs → X
      some l = elim (cases_eq (owns k c) 0) [ inl z ↦ brings (omega arith) | inr d ↦ h.commands (omega arith) ]

      commands : 0 < owns k (all_changed xs c) → X
      commands l = some (let o = once.once k xs c in let t : ends_given k c.notes ≡ 0 = ap (ends_given k) none in omega arith)

      holds : (all_changed xs c).hold ≡ Some k → X
      holds e = elim (hold.held k xs c none e) [ inl before ↦ h.holds before | inr has ↦ some has ]

  event_has : (s : Setup) (m x : Machine) (o : Object) (xs : List Change) → Event m x o xs →
      ((k : ℕ) → 0 < brought k xs → has_commands_on (slice_get s.blocks k) o ≡ true) → OwnersHaveBlocks s m → OwnersHaveBlocks s x
  event_has s m x o xs e brings h p there k = elim (cases_Bool (is_same o p)) [
    | inl same ↦
        subst (λ q. HasBlock s k q (command_state_at x q)) (same_object o p same)
        (subst (HasBlock s k o) (sym e.here)
        (has_changed k xs (command_state_at m o) (has_commands_on (slice_get s.blocks k) o ≡ true) (untold m o) (brings k) (h o e.there k)))
    | inr other ↦ subst (HasBlock s k p) (sym (e.beside p (e.as_many p there) other)) (h p (e.as_many p there) k)
  ]

  none_has : (s : Setup) (m x : Machine) (o : Object) (xs : List Change) → Event m x o xs → BringNone xs → OwnersHaveBlocks s m → OwnersHaveBlocks s x
  none_has s m x o xs e none h = event_has s m x o xs e (λ k l. absurd (let z = once.none k xs none in omega arith)) h

  -- an instance that is called anew has its earlier command no longer
  has_freed : (k j : ℕ) (c : CommandState) (X : Type 0) → HasOnly j c X → HasOnly j (disowned k c) X
  has_freed k j c X h = record {
    commands = λ l. h.commands (elim (cases_Bool (nat_eq k j)) [
      | inl same ↦ absurd (let z = subst (λ n. owns n (disowned k c) ≡ 0) (eqb-true k j same) (once.taken_away k c) in omega arith)
      | inr other ↦ (let z = once.left j k c other in omega arith)
    ]);
    holds = λ e. h.holds (hold_without k j c.hold e);
  }

  asked_has : (s : Setup) (k : ℕ) (m z : Machine) → Asks s k m z → OwnersHaveBlocks s m → OwnersHaveBlocks s z
  asked_has s k m z a h =
      let free : OwnersHaveBlocks s (freed k a.called m) = λ p there j.
      let was = freed_there k a.called m p there in
      subst (HasBlock s j p) (sym (freed_at laws k a.called m p was)) (has_freed k j (command_state_at m p) _ (h p was j)) in
      let brings : (j : ℕ) → 0 < brought j a.changes → has_commands_on (slice_get s.blocks j) a.object ≡ true =
      λ j l. elim (cases_Bool (nat_eq k j)) [
        | inl same ↦ subst (λ n. has_commands_on (slice_get s.blocks n) a.object ≡ true) (eqb-true k j same) a.on
        | inr other ↦ absurd (let none = a.others j other in omega arith)
      ] in
      alike_has s a.asked z a.alike (event_has s (freed k a.called m) a.asked a.object a.changes a.event brings free)

  pub blocks_kept : (s : Setup) → Keeps s Anyone (OwnersHaveBlocks s) (OwnersHaveBlocks s)
  blocks_kept s = record {
    executed = λ k b i m may at quiet h. alike_has s m (with_execute k i m) (executed_alike k i m) h;
    powered = λ m x o xs e none call h. none_has s m x o xs e none h;
    asked = λ k m z may a h. asked_has s k m z a h;
    replied = λ k m may h. alike_has s m (after_reply k m) (replied_alike k m) h;
    begins = λ m sized h. h;
    cycled = none_has s;
    found = λ m sized h. alike_has s m (with_found s m) (found_alike s m) h;
  }
