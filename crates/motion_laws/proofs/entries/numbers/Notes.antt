-- Which errors some notes report.
-- for: errors_have_causes, errors_are_told_as_shown, commands_end_by_their_kinds
use Rattle.std.specs.Prelude.{◌≡◌, ◌≢◌, refl, ℕ, nat_eq, if◌then◌else◌, Option, Some, None, List, [], ◌∷◌, ◌++◌}
use Rattle.std.specs.List.{AllByRecursion}
use Rattle.std.proofs.Common.{ap, subst, sym, ◌∙◌, inl, inr}
use Rattle.std.proofs.lemmas.Bool.{cases_Bool, eq-eqb, eqb-true}
use Rattle.buffer_modes.specs.Owners.{owner_count, owner_by}
use Rattle.buffer_modes.specs.Queue.{Commands, active_note, end_notes}
use Rattle.command_core.proofs.Ends.{own_note}
use Rattle.command_core.specs.CommandState.{CommandState}
use Rattle.command_core.specs.Ends.{end_among}
use Rattle.command_pool.specs.Waiting.{notes_of, told_to}
use Rattle.command_pool.specs.declared.ending.Finish.{Finish}
use Rattle.command_pool.specs.declared.ending.Finish.TheVariants as finish
use Rattle.command_pool.specs.declared.notes.Note.{Note}
use Rattle.command_pool.specs.declared.wanted.Wanted.{Wanted}
use Rattle.motion_laws.specs.entries.Numbers.{MayFail}

-- none
abbrev pub Nothing : ℕ → ℕ → Type 0
Nothing k x = ⊥

-- an error that the commands may end by, and that is this one
abbrev pub Shows : CommandState → ℕ → ℕ → ℕ → Type 0
Shows c error k x = MayFail k c x × (error ≡ x)

-- each error that some notes report is one of these, by owner and number
abbrev pub AllTell : (ℕ → ℕ → Type 0) → List Note → Type 0
AllTell P ns = AllByRecursion (λ (n : Note). (x : ℕ) → n.finish ≡ finish.Error x → P n.owner x) ns

same_finish : (f : Finish) (x : ℕ) → Some f ≡ Some (finish.Error x) → f ≡ finish.Error x
same_finish f x e = cc

same_number : (x y : ℕ) → finish.Error x ≡ finish.Error y → x ≡ y
same_number x y e = cc

pub told_in : (P : ℕ → ℕ → Type 0) (k x : ℕ) (ns : List Note) → AllTell P ns →
    end_among k ns ≡ Some (finish.Error x) → P k x
told_in P k x [] h e = absurd (cc)
told_in P k x (n ∷ ns) h e = elim (cases_Bool (nat_eq n.owner k)) [
  | inl own ↦ subst (λ j. P j x) (eqb-true n.owner k own) (h.0 x (same_finish n.finish x
      (ap (λ b. if b then Some n.finish else end_among k ns) (sym own) ∙ e)))
  | inr d ↦ told_in P k x ns h.1
      (ap (λ b. if b then Some n.finish else end_among k ns) (sym d) ∙ e)
]

pub weaker : (P Q : ℕ → ℕ → Type 0) (ns : List Note) → ((k x : ℕ) → P k x → Q k x) →
    AllTell P ns → AllTell Q ns
weaker P Q [] f h = tt
weaker P Q (n ∷ ns) f h = ((λ x e. f n.owner x (h.0 x e)), weaker P Q ns f h.1)

pub more : (P : ℕ → ℕ → Type 0) (ns others : List Note) → AllTell P ns → AllTell P others →
    AllTell P (ns ++ others)
more P [] others h g = g
more P (n ∷ ns) others h g = (h.0, more P ns others h.1 g)

pub untold : (P : ℕ → ℕ → Type 0) (ns : List Note) → ns ≡ [] → AllTell P ns
untold P ns e = subst (AllTell P) (sym e) tt

-- an end that is no error
abbrev pub IsPlain : Finish → Type 0
IsPlain f = (x : ℕ) → f ≢ finish.Error x

pub plain : (P : ℕ → ℕ → Type 0) (o : Option ℕ) (f : Finish) → IsPlain f → AllTell P (told_to o f)
plain P None f h = tt
plain P (Some j) f h = ((λ x e. absurd (h x e)), tt)

pub aborts_plain : IsPlain finish.Aborted
aborts_plain x e = cc

pub done_plain : IsPlain finish.Done
done_plain x e = cc

pub active_plain : (P : ℕ → ℕ → Type 0) (active : Option Wanted) (f : Finish) → IsPlain f →
    AllTell P (active_note f active)
active_plain P None f h = tt
active_plain P (Some w) f h = plain P w.owner f h

waiting_plain : (P : ℕ → ℕ → Type 0) (ws : List Wanted) → AllTell P (notes_of finish.Aborted ws)
waiting_plain P [] = tt
waiting_plain P (w ∷ ws) =
    more P (told_to w.owner finish.Aborted) (notes_of finish.Aborted ws)
    (plain P w.owner finish.Aborted aborts_plain) (waiting_plain P ws)

pub all_plain : (P : ℕ → ℕ → Type 0) (c : Commands) (f : Finish) → IsPlain f →
    AllTell P (end_notes f c)
all_plain P c f h =
    more P (active_note f c.active) (notes_of finish.Aborted c.waiting)
    (active_plain P c.active f h) (waiting_plain P c.waiting)

-- the owner of the active command is given the error, and those that wait none
owner_told : (P : ℕ → ℕ → Type 0) (n : ℕ) (o : Option ℕ) → ((k : ℕ) → owner_count k o ≡ 1 → P k n) →
    AllTell P (told_to o (finish.Error n))
owner_told P n None h = tt
owner_told P n (Some k) h =
    ((λ x e. subst (P k) (same_number n x e) (h k (own_note k k (eq-eqb k k refl)))), tt)

active_told : (P : ℕ → ℕ → Type 0) (n : ℕ) (active : Option Wanted) →
    ((k : ℕ) → owner_count k (owner_by active) ≡ 1 → P k n) →
    AllTell P (active_note (finish.Error n) active)
active_told P n None h = tt
active_told P n (Some w) h = owner_told P n w.owner h

pub all_told : (P : ℕ → ℕ → Type 0) (n : ℕ) (c : Commands) →
    ((k : ℕ) → owner_count k (owner_by c.active) ≡ 1 → P k n) →
    AllTell P (end_notes (finish.Error n) c)
all_told P n c h =
    more P (active_note (finish.Error n) c.active) (notes_of finish.Aborted c.waiting)
    (active_told P n c.active h) (waiting_plain P c.waiting)
