-- Who holds stopping after some changes held it before, or has a command before or brings one.
-- for: holders_have_commands
use Rattle.std.specs.Prelude.{◌≡◌, refl, ℕ, ◌+◌, ◌<◌, ◌⊎◌, true, false, ℤ, Option, Some, None, List, [], ◌∷◌, ◌++◌}
use Rattle.std.proofs.Common.{ap, arith, inl, inr}
use Rattle.std.proofs.lemmas.Bool.{eq-eqb}
use Rattle.buffer_modes.specs.Laws.{AreOwners, AreTakenAway}
use Rattle.buffer_modes.specs.Owners.{owner_count, one_of, owner_by, ends_given}
use Rattle.buffer_modes.specs.Queue.{active_note}
use Rattle.command_pool.specs.declared.wanted.Wanted.{Wanted}
use Rattle.command_core.specs.Brought.{brought}
use Rattle.command_core.specs.Changes.{Change, joins, replaced, ends, awaits, resets, holds, all_changed, changed, taken_over}
use Rattle.command_core.specs.CommandState.{CommandState, owns}
use Rattle.command_core.proofs.Owners.{once_by}

abbrev Holds : ℕ → ℕ → Option ℕ → Option ℕ → Type 0
Holds k n before now = now ≡ Some k → (before ≡ Some k) ⊎ (0 < n)

pub owner_counts : (k : ℕ) (o : Option ℕ) → o ≡ Some k → owner_count k o ≡ 1
unfolding owner_count
owner_counts k None e = absurd (cc)
owner_counts k (Some n) e = let same : n ≡ k = cc in ap one_of (eq-eqb n k same)

taken_hold : (t : Option ℤ) (ws : List Wanted) (c : CommandState) → (taken_over t ws c).hold ≡ c.hold
taken_hold t [] c = refl
taken_hold t (w ∷ ws) c = refl

held_by : (k : ℕ) (x : Change) (c : CommandState) → Holds k (owns k c) c.hold (changed x c).hold
held_by k (joins w) c e = inl e
held_by k (replaced f next ws) c e = inl e
held_by k (ends f target) c e =
    let same = taken_hold target c.waiting (record c { active = None; notes = c.notes ++ active_note f c.active }) in
    inl (let before : c.hold ≡ Some k = cc in before)
held_by k (awaits owner) c e = inl e
held_by k resets c e = inl e
held_by k (holds true) c e = inr (let o = owner_counts k (owner_by c.active) e in omega arith)
held_by k (holds false) c e = absurd (cc)

module _ (owners : AreOwners) (taken : AreTakenAway) where
  held_all : (k : ℕ) (xs : List Change) (c : CommandState) → Holds k (owns k c + ends_given k c.notes + brought k xs) c.hold (all_changed xs c).hold
  held_all k [] c e = inl e
  held_all k (x ∷ xs) c e = elim (held_all k xs (changed x c) e) [
    | inl before ↦ elim (held_by k x c before) [ inl same ↦ inl same | inr has ↦ inr (omega arith) ]
    | inr has ↦ inr (let o = once_by owners taken k x c in omega arith)
  ]

  pub held : (k : ℕ) (xs : List Change) (c : CommandState) → c.notes ≡ [] → (all_changed xs c).hold ≡ Some k →
      (c.hold ≡ Some k) ⊎ (0 < owns k c + brought k xs)
  held k xs c none e = elim (held_all k xs c e) [
    | inl before ↦ inl before
    | inr has ↦ inr (let t : ends_given k c.notes ≡ 0 = ap (ends_given k) none in omega arith)
  ]
