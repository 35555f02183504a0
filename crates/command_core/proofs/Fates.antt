-- A change makes of the active command what its fate says, and its owner is notified how it ends.
-- for: changes_make_fates
use Rattle.std.specs.Prelude.{◌≡◌, ◌≢◌, refl, Bool, true, false, ◌||◌, ℤ, Option, Some, None, is_none, List, [], ◌∷◌, ◌++◌, if◌then◌else◌}
use Rattle.std.specs.List.{Contains}
use Rattle.std.proofs.Common.{◌∙◌, sym, subst, arith}
use Rattle.std.proofs.lemmas.List.Elements.{Contains-append_left, Contains-append_right}
use Rattle.buffer_modes.specs.Fates as fate
use Rattle.buffer_modes.specs.Fates.{AreAmong, Fate, IsFate, TellsOwner, goes_on}
use Rattle.buffer_modes.specs.Laws.{AreFates, AreTellings}
use Rattle.buffer_modes.specs.Queue.{active_note, end_notes, is_aborting}
use Rattle.command_pool.specs.Waiting.{notes_of}
use Rattle.command_pool.specs.declared.ending.Finish.{Finish}
use Rattle.command_pool.specs.declared.ending.Finish.TheVariants as finish
use Rattle.command_pool.specs.declared.notes.Note.{Note}
use Rattle.command_pool.specs.declared.wanted.Wanted.{Wanted}
use Rattle.command_core.specs.Changes.{Change, joins, replaced, ends, awaits, resets, holds, all_changed, changed, taken_over}
use Rattle.command_core.specs.CommandState.{CommandState, queue_of}
use Rattle.command_core.proofs.Order.{at_once, later}
use Rattle.command_core.specs.Fates.{fate_in, fate_of, followed_by, taker_of}

-- the notes of an end are among those after the change
all_notes : (f : Finish) (c : CommandState) → AreAmong (active_note f c.active) (c.notes ++ end_notes f (queue_of c))
all_notes f c x h =
    Contains-append_right c.notes (end_notes f (queue_of c)) x
    (Contains-append_left (active_note f c.active) (notes_of finish.Aborted c.waiting) x h)

joined_notes : (aborts : Bool) (c : CommandState) (active : Option Wanted) → c.active ≡ active → (aborts || is_none active) ≡ true →
    AreAmong (active_note finish.Aborted c.active) (c.notes ++ (if aborts then end_notes finish.Aborted (queue_of c) else []))
joined_notes true c active e h = all_notes finish.Aborted c
joined_notes false c None e h = λ x g. absurd (let P : Option Wanted → Type 0 = λ o. Contains (active_note finish.Aborted o) x in let none = subst P e g in (let few = none.1 in omega (arith, few)))
joined_notes false c (Some w) e h = absurd (cc)

taken_notes : (t : Option ℤ) (ws : List Wanted) (c : CommandState) → (taken_over t ws c).notes ≡ c.notes
taken_notes t [] c = refl
taken_notes t (w ∷ ws) c = refl

-- no change loses a note
more_notes : (before more : List Note) → AreAmong before (before ++ more)
more_notes before more x h = Contains-append_left before more x h

kept_by : (x : Change) (c : CommandState) → AreAmong c.notes (changed x c).notes
kept_by (joins w) c = more_notes c.notes _
kept_by (replaced f next ws) c = more_notes c.notes _
kept_by (ends f target) c =
    let after : CommandState = record c { active = None; notes = c.notes ++ active_note f c.active } in
    λ x h. subst (λ (ns : List Note). Contains ns x) (sym (taken_notes target c.waiting after)) (more_notes c.notes (active_note f c.active) x h)
kept_by (awaits owner) c = more_notes c.notes _
kept_by resets c = more_notes c.notes _
kept_by (holds stops) c = λ x h. h

all_kept : (xs : List Change) (c : CommandState) → AreAmong c.notes (all_changed xs c).notes
all_kept [] c x h = h
all_kept (y ∷ xs) c x h = all_kept xs (changed y c) x (kept_by y c x h)

-- the first that waits is active
taken_active : (t : Option ℤ) (ws : List Wanted) (c : CommandState) → c.active ≡ None → (taken_over t ws c).active ≡ taker_of t ws
taken_active t [] c e = e
taken_active t (w ∷ ws) c e = refl

-- what the end of the active command and the one that begins say of the one before and the one
-- after
record Makes (end : Option Finish) (next before now : Option Wanted) : Type 0 where
  begins : (w : Wanted) → next ≡ Some w → now ≡ Some w
  over : end ≢ None → next ≡ None → now ≡ None
  was : end ≢ None → before ≢ None
  still : end ≡ None → next ≡ None → now ≡ before
  fresh : end ≡ None → next ≢ None → before ≡ None

still_makes : (before now : Option Wanted) → now ≡ before → Makes None None before now
still_makes before now e = record {
  begins = λ w h. absurd (cc);
  over = λ h b. absurd (h refl);
  was = λ h. absurd (h refl);
  still = λ h b. e;
  fresh = λ h b. absurd (b refl);
}

replaced_makes : (f : Finish) (before next now : Option Wanted) → now ≡ next →
    Makes (fate.replaced f before next).ends (fate.replaced f before next).begins before now
replaced_makes f None next now e = record {
  begins = λ w h. e ∙ h;
  over = λ h b. absurd (h refl);
  was = λ h. absurd (h refl);
  still = λ h b. e ∙ b;
  fresh = λ h b. refl;
}
replaced_makes f (Some w) next now e = record {
  begins = λ v h. e ∙ h;
  over = λ h b. e ∙ b;
  was = λ h n. absurd (cc);
  still = λ h b. absurd (cc);
  fresh = λ h b. absurd (cc);
}

makes_by : (x : Change) (c : CommandState) → Makes (fate_of x c).ends (fate_of x c).begins c.active (changed x c).active
makes_by (joins w) c = by (is_aborting w.mode || is_none c.active) refl
  where
    by : (b : Bool) → (is_aborting w.mode || is_none c.active) ≡ b →
        Makes (let f : Fate = if b then fate.replaced finish.Aborted c.active (Some w) else goes_on in f).ends
        (let f : Fate = if b then fate.replaced finish.Aborted c.active (Some w) else goes_on in f).begins c.active (changed (joins w) c).active
    by true h = replaced_makes finish.Aborted c.active (Some w) _ (at_once w c h)
    by false h = still_makes c.active _ (later w c h)
makes_by (replaced f next ws) c = replaced_makes f c.active next next refl
makes_by (ends f target) c = replaced_makes f c.active (taker_of target c.waiting) _
    (taken_active target c.waiting (record c { active = None; notes = c.notes ++ active_note f c.active }) refl)
makes_by (awaits owner) c = still_makes c.active _ refl
makes_by resets c = still_makes c.active _ refl
makes_by (holds stops) c = still_makes c.active _ refl

-- one after another: an end that is the first one's
ended_makes : (e : Finish) (b : Option Wanted) (g : Option Finish) (n : Option Wanted) (before middle now : Option Wanted) →
    Makes (Some e) b before middle → Makes g n middle now →
    Makes (Some e) (followed_by (Some e) b (record { ends = g; begins = n; blends = false })).begins before now
ended_makes e b None None before middle now m l = record {
  begins = λ v h. l.still refl refl ∙ m.begins v h;
  over = λ h z. l.still refl refl ∙ m.over h z;
  was = m.was;
  still = λ h z. absurd (cc);
  fresh = λ h z. absurd (cc);
}
ended_makes e b (Some f) None before middle now m l = record {
  begins = λ v h. absurd (cc);
  over = λ h z. l.over (λ y. absurd (cc)) refl;
  was = m.was;
  still = λ h z. absurd (cc);
  fresh = λ h z. absurd (cc);
}
ended_makes e b None (Some v) before middle now m l = record {
  begins = λ u h. l.begins u h;
  over = λ h z. absurd (cc);
  was = m.was;
  still = λ h z. absurd (cc);
  fresh = λ h z. absurd (cc);
}
ended_makes e b (Some f) (Some v) before middle now m l = record {
  begins = λ u h. l.begins u h;
  over = λ h z. absurd (cc);
  was = m.was;
  still = λ h z. absurd (cc);
  fresh = λ h z. absurd (cc);
}

-- where none was active, and one begins
begun_makes : (w : Wanted) (g : Option Finish) (n : Option Wanted) (before middle now : Option Wanted) →
    Makes None (Some w) before middle → Makes g n middle now →
    Makes None (followed_by None (Some w) (record { ends = g; begins = n; blends = false })).begins before now
begun_makes w None None before middle now m l = record {
  begins = λ v h. l.still refl refl ∙ m.begins v h;
  over = λ h b. absurd (h refl);
  was = m.was;
  still = λ h b. absurd (cc);
  fresh = λ h b. m.fresh refl (λ z. absurd (cc));
}
begun_makes w (Some f) None before middle now m l =
    let gone : now ≡ None = l.over (λ z. absurd (cc)) refl in
    let new : before ≡ None = m.fresh refl (λ z. absurd (cc)) in
    record { begins = λ v h. absurd (cc); over = λ h b. absurd (h refl); was = m.was; still = λ h b. gone ∙ sym new; fresh = λ h b. new }
begun_makes w None (Some v) before middle now m l = record {
  begins = λ u h. l.begins u h;
  over = λ h b. absurd (h refl);
  was = m.was;
  still = λ h b. absurd (cc);
  fresh = λ h b. m.fresh refl (λ z. absurd (cc));
}
begun_makes w (Some f) (Some v) before middle now m l = record {
  begins = λ u h. l.begins u h;
  over = λ h b. absurd (h refl);
  was = m.was;
  still = λ h b. absurd (cc);
  fresh = λ h b. m.fresh refl (λ z. absurd (cc));
}

followed_makes : (e : Option Finish) (b : Option Wanted) (g : Fate) (before middle now : Option Wanted) →
    Makes e b before middle → Makes g.ends g.begins middle now → Makes (followed_by e b g).ends (followed_by e b g).begins before now
followed_makes None None g before middle now m l = subst (λ o. Makes g.ends g.begins o now) (m.still refl refl) l
followed_makes None (Some w) g before middle now m l = begun_makes w g.ends g.begins before middle now m l
followed_makes (Some e) b g before middle now m l = ended_makes e b g.ends g.begins before middle now m l

all_make : (xs : List Change) (c : CommandState) → Makes (fate_in xs c).ends (fate_in xs c).begins c.active (all_changed xs c).active
all_make [] c = still_makes c.active c.active refl
all_make (x ∷ xs) c =
    followed_makes (fate_of x c).ends (fate_of x c).begins (fate_in xs (changed x c))
    c.active (changed x c).active (all_changed xs (changed x c)).active (makes_by x c) (all_make xs (changed x c))

-- the active command that goes on is the same
pub goes_on_same : (xs : List Change) (c : CommandState) → (fate_in xs c).ends ≡ None → (fate_in xs c).begins ≡ None → (all_changed xs c).active ≡ c.active
goes_on_same xs c over next = (all_make xs c).still over next

-- where one begins and none ends, none was active
pub begun_none : (xs : List Change) (c : CommandState) (w : Wanted) → (fate_in xs c).ends ≡ None → (fate_in xs c).begins ≡ Some w → c.active ≡ None
begun_none xs c w over next = (all_make xs c).fresh over (λ z. let e : Some w ≡ None = sym next ∙ z in cc)

module _ (laws : AreFates) (tellings : AreTellings) where
  pub fates : (xs : List Change) (c : CommandState) → IsFate (fate_in xs c) c.active (all_changed xs c).active
  fates xs c =
      let m = all_make xs c in
      record {
        begins = m.begins;
        ends = m.over;
        goes_on = λ h b. (laws.going false c.active (all_changed xs c).active (m.still h b)).goes_on refl refl;
        was = m.was;
      }

  -- the owner of the active command is notified how it ends
  tells_none : (active : Option Wanted) (notes : List Note) → TellsOwner goes_on active notes
  tells_none active notes owner g e o = absurd (cc)

  tells_by : (x : Change) (c : CommandState) → TellsOwner (fate_of x c) c.active (changed x c).notes
  tells_by (joins w) c = by (is_aborting w.mode || is_none c.active) refl
    where
      by : (b : Bool) → (is_aborting w.mode || is_none c.active) ≡ b →
          TellsOwner (if b then fate.replaced finish.Aborted c.active (Some w) else goes_on) c.active (changed (joins w) c).notes
      by true h = tellings.replaces finish.Aborted c.active (Some w) _ (joined_notes (is_aborting w.mode) c c.active refl h)
      by false h = tells_none c.active _
  tells_by (replaced f next ws) c = tellings.replaces f c.active next _ (all_notes f c)
  tells_by (ends f target) c =
      let after : CommandState = record c { active = None; notes = c.notes ++ active_note f c.active } in
      tellings.replaces f c.active (taker_of target c.waiting) _ (λ x h.
      subst (λ (ns : List Note). Contains ns x) (sym (taken_notes target c.waiting after)) (Contains-append_right c.notes (active_note f c.active) x h))
  tells_by (awaits owner) c = tells_none c.active _
  tells_by resets c = tells_none c.active _
  tells_by (holds stops) c = tells_none c.active _

  followed_tells : (e : Option Finish) (b : Option Wanted) (g : Fate) (before middle : Option Wanted) (notes : List Note) → Makes e b before middle →
      TellsOwner (record { ends = e; begins = b; blends = false }) before notes → TellsOwner g middle notes → TellsOwner (followed_by e b g) before notes
  followed_tells None None g before middle notes m s t = subst (λ o. TellsOwner g o notes) (m.still refl refl) t
  followed_tells None (Some w) g before middle notes m s t = s
  followed_tells (Some e) b g before middle notes m s t = s

  pub tells : (xs : List Change) (c : CommandState) → TellsOwner (fate_in xs c) c.active (all_changed xs c).notes
  tells [] c = tells_none c.active c.notes
  tells (x ∷ xs) c =
      followed_tells (fate_of x c).ends (fate_of x c).begins (fate_in xs (changed x c)) c.active (changed x c).active _ (makes_by x c)
      (λ owner e a o. all_kept xs (changed x c) _ (tells_by x c owner e a o))
      (tells xs (changed x c))
