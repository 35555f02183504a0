-- What becomes of the active command, and who is notified of it.
-- for: ends_tell_their_owners, fates_are_of_the_active_command
use Rattle.std.specs.Prelude.{◌≡◌, ◌≢◌, refl, ℕ, Bool, Option, Some, None, List}
use Rattle.std.specs.List.{Contains}
use Rattle.std.proofs.Common.{◌∙◌, sym, ap, subst, arith}
use Rattle.command_pool.specs.Waiting.{told_to}
use Rattle.command_pool.specs.declared.ending.Finish.{Finish}
use Rattle.command_pool.specs.declared.notes.Note.{Note}
use Rattle.command_pool.specs.declared.wanted.Wanted.{Wanted}
use Rattle.buffer_modes.specs.Fates.{AreAmong, Fate, IsFate, TellsOwner, replaced}
use Rattle.buffer_modes.specs.Owners.{IsSame, owner_by}
use Rattle.buffer_modes.specs.Queue.{active_note}

same-by : (before now : Option Wanted) → now ≡ before → IsSame before now
same-by None now e = subst (IsSame None) (sym e) tt
same-by (Some w) now e = subst (IsSame (Some w)) (sym e) refl

pub going : (blends : Bool) (before now : Option Wanted) → now ≡ before → IsFate (record { ends = None; begins = None; blends = blends }) before now
going blends before now e = record { begins = λ w h. absurd (cc); ends = λ h g. absurd (h refl); goes_on = λ h g. same-by before now e; was = λ h. absurd (h refl) }

pub ended : (f : Finish) (before next now : Option Wanted) → now ≡ next → IsFate (replaced f before next) before now
ended f None next now e = record {
  begins = λ w h. e ∙ h;
  ends = λ h b. absurd (h refl);
  goes_on = λ h b. same-by None now (e ∙ b);
  was = λ h. absurd (h refl);
}
ended f (Some w) next now e = record {
  begins = λ v h. e ∙ h;
  ends = λ h b. e ∙ b;
  goes_on = λ h b. absurd (cc);
  was = λ h n. absurd (cc);
}

pub over : (blends : Bool) (f : Finish) (before next now : Option Wanted) → before ≢ None → now ≡ next → IsFate (record { ends = Some f; begins = next; blends = blends }) before now
over blends f before next now some e = record {
  begins = λ w h. e ∙ h;
  ends = λ h g. e ∙ g;
  goes_on = λ h g. absurd (cc);
  was = λ h. some;
}

told-note : (f : Finish) (o : Option ℕ) (owner : ℕ) → o ≡ Some owner → Contains (told_to o f) (record { owner = owner; finish = f })
told-note f None owner h = absurd (cc)
told-note f (Some n) owner h = (0, omega arith, (let e : n ≡ owner = cc in ap (λ m. record { owner = m; finish = f }) e))

active-told : (f : Finish) (active : Option Wanted) (owner : ℕ) → owner_by active ≡ Some owner → Contains (active_note f active) (record { owner = owner; finish = f })
active-told f None owner h = absurd (cc)
active-told f (Some w) owner h = told-note f w.owner owner h

pub tells : (f : Fate) (active : Option Wanted) (notes : List Note) → ((g : Finish) → f.ends ≡ Some g → AreAmong (active_note g active) notes) → TellsOwner f active notes
tells f active notes h owner g e o = h g e (record { owner = owner; finish = g }) (active-told g active owner o)

replaced-ends : (f g : Finish) (active next : Option Wanted) → (replaced f active next).ends ≡ Some g → g ≡ f
replaced-ends f g None next h = absurd (cc)
replaced-ends f g (Some w) next h = let e : g ≡ f = cc in e

pub replaces : (f : Finish) (active next : Option Wanted) (notes : List Note) → AreAmong (active_note f active) notes → TellsOwner (replaced f active next) active notes
replaces f active next notes h = tells (replaced f active next) active notes
    (λ g e. let P : Finish → Type 0 = λ x. AreAmong (active_note x active) notes in subst P (sym (replaced-ends f g active next e)) h)
