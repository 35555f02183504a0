-- What an instance shows after an entry, by the commands that it has before and after it.
-- for: replies_show_commands, entries_make_outcomes, results_are_told and others
use Rattle.std.specs.Prelude.{◌≡◌, refl, ℕ, ◌<◌, Bool, true, false, Option, Some, None, List, []}
use Rattle.std.proofs.Common.{arith, ap, sym, ◌∙◌, inl, inr}
use Rattle.std.proofs.lemmas.Bool.{cases_eq, eqb-true}
use Rattle.buffer_modes.specs.Owners.{owner_count, owner_by, ends_given}
use Rattle.buffer_modes.proofs.Owners.{nobody}
use Rattle.command_core.proofs.Ends.{none_among}
use Rattle.command_core.specs.Brought.{brought}
use Rattle.command_core.specs.Changes.{Change, all_changed}
use Rattle.command_core.specs.CommandState.{CommandState, active_of, owns}
use Rattle.command_core.specs.Ends.{end_among}
use Rattle.command_core.specs.Fates.{fate_in}
use Rattle.command_core.specs.Laws.{AreInOrder, AreOfChanges}
use Rattle.command_pool.specs.declared.ending.Finish.{Finish}
use Rattle.command_pool.specs.declared.wanted.Wanted.{Wanted}
use Rattle.fb_outputs.specs.declared.instance.Progress.{Progress}
use Rattle.fb_outputs.specs.declared.instance.Progress.TheVariants.{Idle, Waiting, Active, Ended}
use Rattle.motion_kernel.specs.calls.Telling.{is_holder}
use Rattle.motion_kernel.specs.owners.Commands.{active_shown, commands_shown}
use Rattle.motion_laws.specs.results.Outcomes.{progress_by}
use Rattle.motion_kernel.proofs.owners.Counts.{other_owner, owner_is}
use Rattle.motion_kernel.proofs.owners.commands.Events.{OwnerLaws, most_one}
use Rattle.motion_laws.proofs.results.outcomes.Notes.{none_told, progress_told, some_among, told_once}

-- the laws on which outcomes rest
pub record OutcomeLaws : Type 0 where
  pub owners : OwnerLaws
  pub order : AreInOrder
  pub fates : AreOfChanges

-- whose command is active
holder_owns : (k : ℕ) (w : Option Wanted) → is_holder k (owner_by w) ≡ true → owner_count k (owner_by w) ≡ 1
holder_owns k w h = by (owner_by w) h
  where
    by : (o : Option ℕ) → is_holder k o ≡ true → owner_count k o ≡ 1
    by None e = absurd (cc)
    by (Some j) e = ap (λ i. owner_count k (Some i)) (eqb-true j k e) ∙ owner_is k

not_holder : (k : ℕ) (o : Option ℕ) → is_holder k o ≡ false → owner_count k o ≡ 0
not_holder k None h = nobody k
not_holder k (Some j) h = other_owner k j h

-- how far it is, by what it shows of its commands
only_active : (p : Progress) → active_shown p ≡ 1 → p ≡ Active
only_active Idle h = absurd (omega (arith, h))
only_active Waiting h = absurd (omega (arith, h))
only_active Active h = refl
only_active (Ended f shown) h = absurd (omega (arith, h))

same_shown : (p now : Progress) → commands_shown p ≡ 1 → commands_shown now ≡ 1 → active_shown now ≡ active_shown p → now ≡ p
same_shown Idle now h i a = absurd (omega (arith, h))
same_shown (Ended f shown) now h i a = absurd (omega (arith, h))
same_shown p Idle h i a = absurd (omega (arith, i))
same_shown p (Ended f shown) h i a = absurd (omega (arith, i))
same_shown Waiting Waiting h i a = refl
same_shown Waiting Active h i a = absurd (omega (arith, a))
same_shown Active Waiting h i a = absurd (omega (arith, a))
same_shown Active Active h i a = refl

-- what an instance shows before and after changes: its commands, or the end that it is reported
pub record IsShownBy (k : ℕ) (c : CommandState) (xs : List Change) (p told_so now : Progress) : Type 0 where
  pub none : brought k xs ≡ 0
  pub notes : c.notes ≡ []
  pub before : owns k c ≡ commands_shown p
  pub active_before : active_of k c ≡ active_shown p
  pub after : owns k (all_changed xs c) ≡ commands_shown now
  pub active_after : active_of k (all_changed xs c) ≡ active_shown now
  pub tells : told_so ≡ progress_told k (all_changed xs c).notes p
  pub stays : commands_shown told_so ≡ 0 → now ≡ told_so

module _ (laws : OutcomeLaws) where
  -- where none of its commands ends, as many are active as before, unless one begins
  still_active : (k : ℕ) (c : CommandState) (xs : List Change) → brought k xs ≡ 0 → ends_given k (all_changed xs c).notes ≡ ends_given k c.notes →
      is_holder k (owner_by (fate_in xs c).begins) ≡ false → active_of k (all_changed xs c) ≡ active_of k c
  still_active k c xs none few other = by (fate_in xs c).begins refl (fate_in xs c).ends refl
    where
      by : (b : Option Wanted) → (fate_in xs c).begins ≡ b → (e : Option Finish) → (fate_in xs c).ends ≡ e →
          active_of k (all_changed xs c) ≡ active_of k c
      by (Some w) eb e ee =
          let fate = laws.fates.fates xs c in
          let now = ap (λ o. owner_count k (owner_by o)) (fate.begins w eb) in
          let is : is_holder k w.owner ≡ false = ap (λ o. is_holder k (owner_by o)) (sym eb) ∙ other in
          let zero = not_holder k w.owner is in
          let waits = laws.owners.more.waiting k xs c in
          let once = laws.owners.once.once k xs c in
          omega arith
      by None eb (Some f) ee =
          let fate = laws.fates.fates xs c in
          let now = ap (λ o. owner_count k (owner_by o)) (fate.ends (λ z. let w : Some f ≡ None = sym ee ∙ z in cc) eb) in
          let zero = nobody k in
          let waits = laws.owners.more.waiting k xs c in
          let once = laws.owners.once.once k xs c in
          omega arith
      by None eb None ee = ap (λ o. owner_count k (owner_by o)) (laws.fates.goes_on xs c ee eb)

  begun_active : (k : ℕ) (c : CommandState) (xs : List Change) → is_holder k (owner_by (fate_in xs c).begins) ≡ true → active_of k (all_changed xs c) ≡ 1
  begun_active k c xs h = by (fate_in xs c).begins refl
    where
      by : (b : Option Wanted) → (fate_in xs c).begins ≡ b → active_of k (all_changed xs c) ≡ 1
      by None eb = absurd (let z : is_holder k None ≡ true = ap (λ o. is_holder k (owner_by o)) (sym eb) ∙ h in cc)
      by (Some w) eb =
          let fate = laws.fates.fates xs c in
          ap (λ o. owner_count k (owner_by o)) (fate.begins w eb)
          ∙ holder_owns k (Some w) (ap (λ o. is_holder k (owner_by o)) (sym eb) ∙ h)

  -- an end that is reported
  told_outcome : (k : ℕ) (c : CommandState) (xs : List Change) (p so now : Progress) (begins : Bool) → IsShownBy k c xs p so now →
      0 < ends_given k (all_changed xs c).notes → now ≡ progress_by (end_among k (all_changed xs c).notes) begins p
  told_outcome k c xs p so now begins h some =
      let ns = (all_changed xs c).notes in
      let once = laws.owners.once.once k xs c in
      let nothing : ends_given k c.notes ≡ 0 = ap (ends_given k) h.notes in
      let none = h.none in
      let before = h.before in
      let most = most_one p in
      let ends = some_among k ns some in
      let is : so ≡ Ended ends.finish false = h.tells ∙ told_once k ns p (omega arith) ∙ ap (λ e. progress_by e false p) ends.is in
      h.stays (ap commands_shown is) ∙ is ∙ ap (λ e. progress_by e begins p) (sym ends.is)

  -- no end, but perhaps a begin
  untold_outcome : (k : ℕ) (c : CommandState) (xs : List Change) (p so now : Progress) → IsShownBy k c xs p so now →
      ends_given k (all_changed xs c).notes ≡ 0 → now ≡ progress_by None (is_holder k (owner_by (fate_in xs c).begins)) p
  untold_outcome k c xs p so now h zero = by (is_holder k (owner_by (fate_in xs c).begins)) refl
    where
      by : (b : Bool) → is_holder k (owner_by (fate_in xs c).begins) ≡ b → now ≡ progress_by None b p
      by true e = only_active now (sym h.active_after ∙ begun_active k c xs e)
      by false e =
          let once = laws.owners.once.once k xs c in
          let nothing : ends_given k c.notes ≡ 0 = ap (ends_given k) h.notes in
          let none = h.none in
          let before = h.before in
          let after = h.after in
          let most = most_one p in
          let so_is : so ≡ p = h.tells ∙ none_told k (all_changed xs c).notes p zero in
          elim (cases_eq (commands_shown p) 0) [
            | inl free ↦ h.stays (ap commands_shown so_is ∙ free) ∙ so_is
            | inr has ↦
                let still = still_active k c xs none (zero ∙ sym nothing) e in
                same_shown p now (omega arith) (omega arith) (sym h.active_after ∙ still ∙ h.active_before)
          ]

  pub outcome : (k : ℕ) (c : CommandState) (xs : List Change) (p so now : Progress) → IsShownBy k c xs p so now →
      now ≡ progress_by (end_among k (all_changed xs c).notes) (is_holder k (owner_by (fate_in xs c).begins)) p
  outcome k c xs p so now h =
      let ns = (all_changed xs c).notes in
      let begins = is_holder k (owner_by (fate_in xs c).begins) in
      elim (cases_eq (ends_given k ns) 0) [
        | inl zero ↦ untold_outcome k c xs p so now h zero ∙ ap (λ e. progress_by e begins p) (sym (none_among k ns zero))
        | inr some ↦ told_outcome k c xs p so now begins h (omega arith)
      ]
