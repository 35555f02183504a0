-- What notes make of the command of an instance.
-- for: replies_show_commands, entries_make_outcomes, results_are_told and others
use Rattle.std.specs.Prelude.{◌≡◌, refl, ℕ, ◌<◌, ◌≤◌, false, nat_eq, if◌then◌else◌, Some, List, [], ◌∷◌, ◌++◌, length}
use Rattle.std.proofs.Common.{arith, ap, sym, ◌∙◌, inl, inr}
use Rattle.std.proofs.lemmas.Bool.{cases_Bool, eqb-false, eqb-true}
use Rattle.std.proofs.lemmas.List.{get_or-set_other, length-set}
use Rattle.buffer_modes.specs.Owners.{ends_given}
use Rattle.command_core.proofs.Ends.{other_note, own_note}
use Rattle.command_core.specs.Ends.{end_among}
use Rattle.command_pool.specs.declared.ending.Finish.{Finish}
use Rattle.command_pool.specs.declared.notes.Note.{Note}
use Rattle.fb_outputs.specs.InstanceState.{InstanceState}
use Rattle.fb_outputs.specs.Steps as instance
use Rattle.fb_outputs.specs.declared.instance.Progress.{Progress}
use Rattle.fb_outputs.specs.declared.instance.Progress.TheVariants.{Ended}
use Rattle.motion_kernel.specs.Machine.{instance_at, no_instance}
use Rattle.motion_kernel.specs.calls.Telling.{told_end, told_notes}
use Rattle.motion_laws.specs.results.Outcomes.{progress_by}
use Rattle.motion_kernel.proofs.owners.commands.Asked.{set_at}
use Rattle.motion_laws.proofs.results.Events.{progress_in}

-- one note after another
abbrev pub progress_told : ℕ → List Note → Progress → Progress
progress_told k [] p = p
progress_told k (n ∷ ns) p = progress_told k ns (if nat_eq n.owner k then Ended n.finish false else p)

pub told_more : (k : ℕ) (ns others : List Note) (p : Progress) →
    progress_told k (ns ++ others) p ≡ progress_told k others (progress_told k ns p)
told_more k [] others p = refl
told_more k (n ∷ ns) others p = told_more k ns others (if nat_eq n.owner k then Ended n.finish false else p)

one_told : (k j : ℕ) (f : Finish) (is : List InstanceState) → k < length is →
    progress_in (told_end j f is) k ≡ (if nat_eq j k then Ended f false else progress_in is k)
one_told k j f is there = elim (cases_Bool (nat_eq j k)) [
  | inl e ↦
      ap (λ i. progress_in (told_end i f is) k) (eqb-true j k e)
      ∙ ap (λ (x : InstanceState). x.progress) (set_at is k (instance.finished (instance_at is k) f) there)
      ∙ ap (λ b. if b then Ended f false else progress_in is k) (sym e)
  | inr d ↦
      ap (λ (x : InstanceState). x.progress)
      (get_or-set_other is j k (instance.finished (instance_at is j) f) no_instance (λ e. eqb-false j k d (sym e)))
      ∙ ap (λ b. if b then Ended f false else progress_in is k) (sym d)
]

-- so it is with an instance among those that are reported
pub told_exact : (k : ℕ) (ns : List Note) (is : List InstanceState) → k < length is →
    progress_in (told_notes ns is) k ≡ progress_told k ns (progress_in is k)
told_exact k [] is there = refl
told_exact k (n ∷ ns) is there =
    let size = length-set is n.owner (instance.finished (instance_at is n.owner) n.finish) in
    told_exact k ns (told_end n.owner n.finish is) (omega arith)
    ∙ ap (progress_told k ns) (one_told k n.owner n.finish is there)

-- where no note is for it, it is as it was
pub none_told : (k : ℕ) (ns : List Note) (p : Progress) → ends_given k ns ≡ 0 → progress_told k ns p ≡ p
none_told k [] p none = refl
none_told k (n ∷ ns) p none = elim (cases_Bool (nat_eq n.owner k)) [
  | inl e ↦ absurd (let own = own_note k n.owner e in omega arith)
  | inr d ↦ ap (λ b. progress_told k ns (if b then Ended n.finish false else p)) d ∙ none_told k ns p (omega arith)
]

-- where one is, it has ended so
pub record EndsAmong (k : ℕ) (ns : List Note) : Type 0 where
  pub finish : Finish
  pub is : end_among k ns ≡ Some finish

pub some_among : (k : ℕ) (ns : List Note) → 0 < ends_given k ns → EndsAmong k ns
some_among k [] some = absurd (omega arith)
some_among k (n ∷ ns) some = elim (cases_Bool (nat_eq n.owner k)) [
  | inl e ↦ record { finish = n.finish; is = ap (λ b. if b then Some n.finish else end_among k ns) e }
  | inr d ↦
      let other = other_note k n.owner d in
      let later = some_among k ns (omega arith) in
      record { finish = later.finish; is = ap (λ b. if b then Some n.finish else end_among k ns) d ∙ later.is }
]

pub told_once : (k : ℕ) (ns : List Note) (p : Progress) → ends_given k ns ≤ 1 → progress_told k ns p ≡ progress_by (end_among k ns) false p
told_once k [] p few = refl
told_once k (n ∷ ns) p few = elim (cases_Bool (nat_eq n.owner k)) [
  | inl e ↦
      let own = own_note k n.owner e in
      ap (λ b. progress_told k ns (if b then Ended n.finish false else p)) e
      ∙ none_told k ns (Ended n.finish false) (omega arith)
      ∙ ap (λ b. progress_by (if b then Some n.finish else end_among k ns) false p) (sym e)
  | inr d ↦
      let other = other_note k n.owner d in
      ap (λ b. progress_told k ns (if b then Ended n.finish false else p)) d
      ∙ told_once k ns p (omega arith)
      ∙ ap (λ b. progress_by (if b then Some n.finish else end_among k ns) false p) (sym d)
]
