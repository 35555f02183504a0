-- Changes one after another, and the active command where one joins.
-- for: changes_make_fates
use Rattle.std.specs.Prelude.{◌≡◌, refl, Bool, true, false, ◌||◌, ℤ, Option, Some, None, is_none, List, [], ◌∷◌, ◌++◌, if◌then◌else◌}
use Rattle.std.proofs.Common.{ap, sym, ◌∙◌}
use Rattle.std.proofs.lemmas.List.{append-nil, append_assoc}
use Rattle.buffer_modes.specs.Queue.{Commands, active_note, behind, is_aborting, is_active_at_once}
use Rattle.buffer_modes.proofs.Queue.{later_active}
use Rattle.command_pool.specs.declared.notes.Note.{Note}
use Rattle.command_pool.specs.declared.wanted.Wanted.{Wanted}
use Rattle.command_core.specs.Brought.{BringNone}
use Rattle.command_core.specs.Changes.{Change, joins, replaced, ends, awaits, resets, holds, all_changed, changed, taken_over}
use Rattle.command_core.specs.CommandState.{CommandState, queue_of}

-- some changes, and then others
pub changes_more : (xs ys : List Change) (c : CommandState) →
    all_changed (xs ++ ys) c ≡ all_changed ys (all_changed xs c)
changes_more [] ys c = refl
changes_more (x ∷ xs) ys c = changes_more xs ys (changed x c)

-- what is reported stands after what was reported before
taken_later : (t : Option ℤ) (ws : List Wanted) (c : CommandState) (ns : List Note) →
    taken_over t ws (record c { notes = ns }) ≡ record (taken_over t ws c) { notes = ns }
taken_later t [] c ns = refl
taken_later t (w ∷ ws) c ns = refl

taken_notes : (t : Option ℤ) (ws : List Wanted) (c : CommandState) → (taken_over t ws c).notes ≡ c.notes
taken_notes t [] c = refl
taken_notes t (w ∷ ws) c = refl

-- the charge with these notes, and others after them
abbrev noted_after : List Note → CommandState → CommandState
noted_after ns d = record d { notes = ns ++ d.notes }

one_noted : (x : Change) (ns : List Note) (c : CommandState) → changed x (noted_after ns c) ≡ noted_after ns (changed x c)
one_noted (joins w) ns c = ap (λ ms. record (changed (joins w) c) { notes = ms }) (append_assoc ns c.notes _)
one_noted (replaced f next vs) ns c = ap (λ ms. record (changed (replaced f next vs) c) { notes = ms }) (append_assoc ns c.notes _)
one_noted (ends f target) ns c =
    let told = active_note f c.active in
    let free : CommandState = record c { active = None } in
    taken_later target c.waiting free ((ns ++ c.notes) ++ told)
    ∙ ap (λ ms. record (taken_over target c.waiting free) { notes = ms })
    (append_assoc ns c.notes told ∙ ap (λ ms. ns ++ ms) (sym (taken_notes target c.waiting (record free { notes = c.notes ++ told }))))
    ∙ ap (λ (d : CommandState). record d { notes = ns ++ (taken_over target c.waiting (record free { notes = c.notes ++ told })).notes })
    (sym (taken_later target c.waiting free (c.notes ++ told)))
one_noted (awaits owner) ns c = ap (λ ms. record (changed (awaits owner) c) { notes = ms }) (append_assoc ns c.notes _)
one_noted resets ns c = ap (λ ms. record (changed resets c) { notes = ms }) (append_assoc ns c.notes _)
one_noted (holds stops) ns c = refl

all_noted : (xs : List Change) (ns : List Note) (c : CommandState) → all_changed xs (noted_after ns c) ≡ noted_after ns (all_changed xs c)
all_noted [] ns c = refl
all_noted (x ∷ xs) ns c = ap (all_changed xs) (one_noted x ns c) ∙ all_noted xs ns (changed x c)

pub notes_more : (xs : List Change) (c : CommandState) →
    all_changed xs c ≡ noted_after c.notes (all_changed xs (record c { notes = [] }))
notes_more xs c =
    ap (λ ms. all_changed xs (record c { notes = ms })) (sym (append-nil c.notes))
    ∙ all_noted xs c.notes (record c { notes = [] })

pub none_more : (xs ys : List Change) → BringNone xs → BringNone ys → BringNone (xs ++ ys)
none_more [] ys f g = g
none_more (x ∷ xs) ys f g = (f.0, none_more xs ys f.1 g)

-- the command that joins is active where the others are ended or none is
now_active : (aborts : Bool) (active : Option Wanted) (ws : List Wanted) (w : Wanted) → (aborts || is_none active) ≡ true →
    (let after : Commands = if aborts then record { active = Some w; waiting = [] } else behind active ws w in after).active ≡ Some w
now_active true active ws w h = refl
now_active false None ws w h = refl
now_active false (Some v) ws w h = absurd (cc)

pub at_once : (w : Wanted) (c : CommandState) → is_active_at_once (queue_of c) w ≡ true → (changed (joins w) c).active ≡ Some w
at_once w c h = now_active (is_aborting w.mode) c.active c.waiting w h

-- else the active one stays
pub later : (w : Wanted) (c : CommandState) → is_active_at_once (queue_of c) w ≡ false → (changed (joins w) c).active ≡ c.active
later w c h = later_active (is_aborting w.mode) c.active c.waiting w h
