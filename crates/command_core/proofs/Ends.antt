-- How the command of an instance ends by what it is given.
-- for: changes_make_fates
use Rattle.std.specs.Prelude.{◌≡◌, refl, ℕ, zero, suc, ◌<◌, ◌≤◌, true, false, nat_eq, if◌then◌else◌, Option, Some, None, List, [], ◌∷◌, length, slice_index_or}
use Rattle.std.proofs.Common.{◌∙◌, ap, arith, inl, inr}
use Rattle.std.proofs.lemmas.Bool.{cases_Bool, eq-eqb, eqb-true}
use Rattle.buffer_modes.specs.Laws.{AreFates, AreOwners, AreTakenAway, AreTellings}
use Rattle.buffer_modes.specs.Owners.{owner_count, one_of, owner_by, ends_given}
use Rattle.command_pool.specs.declared.ending.Finish.{Finish}
use Rattle.command_pool.specs.declared.notes.Note.{Note}
use Rattle.command_pool.specs.declared.wanted.Wanted.{Wanted}
use Rattle.command_core.specs.Brought.{brought}
use Rattle.command_core.specs.Changes.{Change, all_changed}
use Rattle.command_core.specs.CommandState.{CommandState, active_of, owns}
use Rattle.command_core.specs.Ends.{end_among}
use Rattle.command_core.specs.Fates.{fate_in}
use Rattle.command_core.proofs.Fates.{begun_none, goes_on_same, tells}
use Rattle.command_core.proofs.Owners.{once}

-- whether a note is for an instance, by its count
pub own_note : (k j : ℕ) → nat_eq j k ≡ true → owner_count k (Some j) ≡ 1
unfolding owner_count
own_note k j e = ap one_of e

pub other_note : (k j : ℕ) → nat_eq j k ≡ false → owner_count k (Some j) ≡ 0
unfolding owner_count
other_note k j e = ap one_of e

-- where none is for it, its command doesn't end
pub none_among : (k : ℕ) (ns : List Note) → ends_given k ns ≡ 0 → end_among k ns ≡ None
none_among k [] none = refl
none_among k (n ∷ ns) none = elim (cases_Bool (nat_eq n.owner k)) [
  | inl e ↦ absurd (let own = own_note k n.owner e in omega arith)
  | inr d ↦ ap (λ b. if b then Some n.finish else end_among k ns) d ∙ none_among k ns (omega arith)
]

-- a note that is there is the one
abbrev note_to : ℕ → Finish → Note
note_to k f = record { owner = k; finish = f }

counted : (k : ℕ) (f : Finish) (ns : List Note) (i : ℕ) → i < length ns → slice_index_or ns i (note_to k f) ≡ note_to k f → 1 ≤ ends_given k ns
counted k f [] i l e = absurd (omega arith)
counted k f (n ∷ ns) zero l e =
    let own = ap (λ (x : Note). owner_count k (Some x.owner)) e ∙ own_note k k (eq-eqb k k refl) in omega arith
counted k f (n ∷ ns) (suc i) l e = let more = counted k f ns i (omega arith) e in omega arith

one_among : (k : ℕ) (f : Finish) (ns : List Note) (i : ℕ) → i < length ns → slice_index_or ns i (note_to k f) ≡ note_to k f → ends_given k ns ≤ 1 →
    end_among k ns ≡ Some f
one_among k f [] i l e few = absurd (omega arith)
one_among k f (n ∷ ns) zero l e few =
    ap (λ (x : Note). if nat_eq x.owner k then Some x.finish else end_among k ns) e
    ∙ ap (λ b. if b then Some f else end_among k ns) (eq-eqb k k refl)
one_among k f (n ∷ ns) (suc i) l e few = elim (cases_Bool (nat_eq n.owner k)) [
  | inl own ↦ absurd (let one = own_note k n.owner own in let some = counted k f ns i (omega arith) e in omega arith)
  | inr d ↦ ap (λ b. if b then Some n.finish else end_among k ns) d ∙ one_among k f ns i (omega arith) e (omega arith)
]

-- whose command is active
owner_of : (k : ℕ) (active : Option Wanted) → owner_count k None ≡ 0 → owner_count k (owner_by active) ≡ 1 → owner_by active ≡ Some k
owner_of k active nobody one = by (owner_by active) one
  where
    by : (o : Option ℕ) → owner_count k o ≡ 1 → o ≡ Some k
    by None e = absurd (omega arith)
    by (Some j) e = elim (cases_Bool (nat_eq j k)) [
      | inl same ↦ ap Some (eqb-true j k same)
      | inr d ↦ absurd (let z = other_note k j d in omega arith)
    ]

module _ (owners : AreOwners) (taken : AreTakenAway) (fates : AreFates) (tellings : AreTellings) where
  -- the active command ends as its fate says
  pub ends_by_fate : (k : ℕ) (xs : List Change) (c : CommandState) → c.notes ≡ [] → owns k c ≤ 1 → brought k xs ≡ 0 → active_of k c ≡ 1 →
      end_among k (all_changed xs c).notes ≡ (fate_in xs c).ends
  ends_by_fate k xs c none few nothing one = by (fate_in xs c).ends refl
    where
      by : (e : Option Finish) → (fate_in xs c).ends ≡ e → end_among k (all_changed xs c).notes ≡ e
      by (Some g) e =
          let has = tells fates tellings xs c k g e (owner_of k c.active (owners.nobody k) one) in
          let all = once owners taken k xs c in
          let before : ends_given k c.notes ≡ 0 = ap (ends_given k) none in
          one_among k g (all_changed xs c).notes has.0 has.1 has.2 (omega arith)
      by None e = on (fate_in xs c).begins refl
        where
          on : (b : Option Wanted) → (fate_in xs c).begins ≡ b → end_among k (all_changed xs c).notes ≡ None
          on None b =
              let still = ap (λ a. owner_count k (owner_by a)) (goes_on_same xs c e b) in
              let all = once owners taken k xs c in
              let before : ends_given k c.notes ≡ 0 = ap (ends_given k) none in
              none_among k (all_changed xs c).notes (omega arith)
          on (Some w) b =
              let gone = ap (λ a. owner_count k (owner_by a)) (begun_none xs c w e b) in
              let nobody = owners.nobody k in
              absurd (omega arith)
