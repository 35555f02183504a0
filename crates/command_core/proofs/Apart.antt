-- Owners stay apart.
-- for: owners_stay_apart
use Rattle.std.specs.Prelude.{◌≡◌, ℕ, ◌+◌, ◌≤◌, List, []}
use Rattle.std.proofs.Common.{ap, subst, arith, inl, inr}
use Rattle.std.proofs.lemmas.Bool.{cases_eq, ne_eqb}
use Rattle.buffer_modes.specs.Laws.{AreOwners, AreTakenAway}
use Rattle.buffer_modes.specs.Owners.{ends_given}
use Rattle.command_core.specs.Brought.{brought}
use Rattle.command_core.specs.Changes.{Change, all_changed}
use Rattle.command_core.specs.CommandState.{AreApart, CommandState, disowned, owns}
use Rattle.command_core.proofs.Owners.{left, once, taken_away}

module _ (owners : AreOwners) (taken : AreTakenAway) where
  pub apart : (xs : List Change) (c : CommandState) → AreApart c → c.notes ≡ [] →
      ((k : ℕ) → owns k c + brought k xs ≤ 1) → AreApart (all_changed xs c)
  apart xs c h none free k =
      let o = once owners taken k xs c in
      let t : ends_given k c.notes ≡ 0 = ap (ends_given k) none in
      let f = free k in
      omega arith

  pub apart_without : (owner : ℕ) (c : CommandState) → AreApart c → AreApart (disowned owner c)
  apart_without owner c h k = elim (cases_eq owner k) [
    | inl same ↦ subst (λ n. owns n (disowned owner c) ≤ 1) same (let z = taken_away owners taken owner c in omega arith)
    | inr apart ↦ (let l = left owners taken k owner c (ne_eqb owner k apart) in let a = h k in omega arith)
  ]
