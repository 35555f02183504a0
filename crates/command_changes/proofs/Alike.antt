-- What axes and groups have alike: whose commands changes bring, and a pending reset.
-- for: axis_fates_are_told, axis_changes_are_made, group_fates_are_told and others
use Rattle.std.specs.Prelude.{◌≡◌, ◌≢◌, refl, ℕ, Option, Some, None, List, ◌++◌}
use Rattle.std.proofs.Common.{◌∙◌, ap, sym}
use Rattle.buffer_modes.specs.Owners.{owner_count}
use Rattle.buffer_modes.specs.Resets.{reset_owner, reset_without}
use Rattle.buffer_modes.specs.declared.reset.PendingReset.{PendingReset}
use Rattle.command_core.specs.Brought.{BringNone, brought}
use Rattle.command_core.specs.Calls.{IsCall}
use Rattle.buffer_modes.specs.Fates.{Fate}
use Rattle.command_core.specs.Changes.{Change, all_changed}
use Rattle.command_core.specs.CommandState.{CommandState}
use Rattle.command_core.specs.Laws.{AreInOrder}
use Rattle.command_changes.proofs.Fates.{AreQuiet, By, before_quiet, both_quiet}
use Rattle.command_pool.specs.declared.wanted.Wanted.{Wanted}
use Rattle.command_pool.specs.Waiting.{without}
use Rattle.command_changes.specs.Failing.{failing}

-- what a call makes of commands by its changes, of which one brings this owner's, and what becomes
-- of the active command
pub record Called (s : CommandState) (owner : Option ℕ) (f : Fate) (xs : List Change) (t : CommandState) : Type 0 where
  pub makes : t ≡ all_changed xs s
  pub brings : (k : ℕ) → brought k xs ≡ owner_count k owner
  pub call : IsCall xs
  pub fated : By s f xs

-- what a cycle makes of them by its changes, none of which brings a command
pub record Cycled (s : CommandState) (f : Fate) (xs : List Change) (t : CommandState) : Type 0 where
  pub makes : t ≡ all_changed xs s
  pub none : BringNone xs
  pub fated : By s f xs

-- the same where the active command goes on
pub record Goes (s : CommandState) (xs : List Change) (t : CommandState) : Type 0 where
  pub makes : t ≡ all_changed xs s
  pub none : BringNone xs
  pub quiet : AreQuiet xs

-- an active command ends
pub with_active : (P : Option Wanted → Type 0) (o : Option Wanted) → o ≢ None → ((v : Wanted) → P (Some v)) → P o
with_active P None some h = absurd (some refl)
with_active P (Some v) some h = h v

-- one after another
module _ (order : AreInOrder) where
  then_makes : (s t u : CommandState) (xs ys : List Change) → t ≡ all_changed xs s → u ≡ all_changed ys t → u ≡ all_changed (xs ++ ys) s
  then_makes s t u xs ys h k = k ∙ ap (all_changed ys) h ∙ sym (order.more xs ys s)

  pub then_goes : {s t u : CommandState} {f : Fate} {xs ys : List Change} → Cycled s f xs t → Goes t ys u → Cycled s f (xs ++ ys) u
  then_goes {s} {t} {u} {f} {xs} {ys} h k = record {
    makes = then_makes s t u xs ys h.makes k.makes;
    none = order.none xs ys h.none k.none;
    fated = before_quiet f xs ys s k.quiet h.fated;
  }

  pub both_go : {s t u : CommandState} {xs ys : List Change} → Goes s xs t → Goes t ys u → Goes s (xs ++ ys) u
  both_go {s} {t} {u} {xs} {ys} h k = record {
    makes = then_makes s t u xs ys h.makes k.makes;
    none = order.none xs ys h.none k.none;
    quiet = both_quiet xs ys h.quiet k.quiet;
  }

-- an error brings none
pub fails : (n : ℕ) → BringNone (failing n)
fails n = ((refl, refl), (tt, tt))

-- a pending reset whose owner is taken away
pub same_reset : (owner : ℕ) (o : Option PendingReset) → reset_owner (reset_without owner o) ≡ without owner (reset_owner o)
same_reset owner None = refl
same_reset owner (Some p) = refl
