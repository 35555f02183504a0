-- Which changes report an instance that its command is Done.
-- for: machines_can_stand, moves_arrive_in_time, paths_end_in_time and others
use Rattle.std.specs.Prelude.{◌≡◌, ◌≢◌, ℕ, Bool, true, false, nat_eq, ℤ, if◌then◌else◌, Option, Some, None, List, [], ◌∷◌, ◌++◌}
use Rattle.std.specs.List.{AllByRecursion}
use Rattle.std.proofs.Common.{arith, ap, sym, ◌∙◌, inl, inr}
use Rattle.std.proofs.lemmas.Bool.{cases_Bool}
use Rattle.buffer_modes.proofs.Owners.{nobody}
use Rattle.buffer_modes.specs.Owners.{owner_count, owner_by}
use Rattle.buffer_modes.specs.Queue.{active_note, end_notes, is_aborting}
use Rattle.command_core.proofs.Ends.{own_note}
use Rattle.command_core.specs.Changes.{Change, joins, replaced, ends, awaits, resets, holds, all_changed, changed, taken_over}
use Rattle.command_core.specs.CommandState.{CommandState, active_of, queue_of}
use Rattle.command_core.specs.Ends.{end_among}
use Rattle.command_pool.specs.Waiting.{notes_of, told_to}
use Rattle.command_pool.specs.declared.ending.Finish.{Finish}
use Rattle.command_pool.specs.declared.ending.Finish.TheVariants as finish
use Rattle.command_pool.specs.declared.notes.Note.{Note}
use Rattle.command_pool.specs.declared.wanted.Wanted.{Wanted}

-- none of some notes reports an instance that its command is Done
abbrev pub NoDone : ℕ → List Note → Type 0
NoDone k ns = AllByRecursion (λ (n : Note). nat_eq n.owner k ≡ true → n.finish ≡ finish.Done → ⊥) ns

same_finish : (f : Finish) → Some f ≡ Some finish.Done → f ≡ finish.Done
same_finish f e = cc

pub none_done : (k : ℕ) (ns : List Note) → NoDone k ns → end_among k ns ≡ Some finish.Done → ⊥
none_done k [] h e = cc
none_done k (n ∷ ns) h e = elim (cases_Bool (nat_eq n.owner k)) [
  | inl own ↦ h.0 own (same_finish n.finish (ap (λ b. if b then Some n.finish else end_among k ns) (sym own) ∙ e))
  | inr d ↦ none_done k ns h.1 (ap (λ b. if b then Some n.finish else end_among k ns) (sym d) ∙ e)
]

more : (k : ℕ) (ns others : List Note) → NoDone k ns → NoDone k others → NoDone k (ns ++ others)
more k [] others h g = g
more k (n ∷ ns) others h g = (h.0, more k ns others h.1 g)

-- what is reported to another owner, or of an end that is none of Done
to_other : (k : ℕ) (o : Option ℕ) (f : Finish) → owner_count k o ≡ 0 → NoDone k (told_to o f)
to_other k None f h = tt
to_other k (Some j) f h = ((λ e d. let one = own_note k j e in omega arith), tt)

to_any : (k : ℕ) (o : Option ℕ) (f : Finish) → f ≢ finish.Done → NoDone k (told_to o f)
to_any k None f h = tt
to_any k (Some j) f h = ((λ e d. h d), tt)

active_other : (k : ℕ) (active : Option Wanted) (f : Finish) → owner_count k (owner_by active) ≡ 0 → NoDone k (active_note f active)
active_other k None f h = tt
active_other k (Some w) f h = to_other k w.owner f h

active_any : (k : ℕ) (active : Option Wanted) (f : Finish) → f ≢ finish.Done → NoDone k (active_note f active)
active_any k None f h = tt
active_any k (Some w) f h = to_any k w.owner f h

waiting_any : (k : ℕ) (ws : List Wanted) → NoDone k (notes_of finish.Aborted ws)
waiting_any k [] = tt
waiting_any k (w ∷ ws) = more k (told_to w.owner finish.Aborted) (notes_of finish.Aborted ws) (to_any k w.owner finish.Aborted (λ e. cc)) (waiting_any k ws)

all_any : (k : ℕ) (c : CommandState) (f : Finish) → f ≢ finish.Done → NoDone k (end_notes f (queue_of c))
all_any k c f h = more k (active_note f c.active) (notes_of finish.Aborted c.waiting) (active_any k c.active f h) (waiting_any k c.waiting)

-- the first that waits takes over: nothing is reported, and a reset stays
taken_same : (P : Option ℕ → List Note → Type 0) (t : Option ℤ) (ws : List Wanted) (c : CommandState) → P c.reset c.notes →
    P (taken_over t ws c).reset (taken_over t ws c).notes
taken_same P t [] c h = h
taken_same P t (w ∷ ws) c h = h

-- changes by which nothing ends Done but a reset
abbrev pub IsLate : List Change → Type 0
IsLate [] = Unit {0}
IsLate (holds stops ∷ xs) = IsLate xs
IsLate (resets ∷ xs) = IsLate xs
IsLate (replaced (finish.Error n) None ws ∷ xs) = IsLate xs
IsLate (x ∷ xs) = ⊥

late : (k : ℕ) (xs : List Change) (c : CommandState) → IsLate xs → owner_count k c.reset ≡ 0 → NoDone k c.notes → NoDone k (all_changed xs c).notes
late k [] c l r h = h
late k (holds stops ∷ xs) c l r h = late k xs (changed (holds stops) c) l r h
late k (resets ∷ xs) c l r h = late k xs (changed resets c) l (nobody k) (more k c.notes _ h (to_other k c.reset finish.Done r))
late k (replaced (finish.Error n) None ws ∷ xs) c l r h =
    late k xs (changed (replaced (finish.Error n) None ws) c) l r (more k c.notes _ h (all_any k c (finish.Error n) (λ e. cc)))
late k (replaced (finish.Error n) (Some w) ws ∷ xs) c l r h = absurd l
late k (replaced finish.Done next ws ∷ xs) c l r h = absurd l
late k (replaced finish.Aborted next ws ∷ xs) c l r h = absurd l
late k (joins w ∷ xs) c l r h = absurd l
late k (ends f t ∷ xs) c l r h = absurd l
late k (awaits owner ∷ xs) c l r h = absurd l

-- changes by which at most the active command ends, once, before any other takes over
abbrev pub HasOneEnd : List Change → Type 0
HasOneEnd [] = Unit {0}
HasOneEnd (holds stops ∷ xs) = HasOneEnd xs
HasOneEnd (resets ∷ xs) = HasOneEnd xs
HasOneEnd (replaced (finish.Error n) None ws ∷ xs) = HasOneEnd xs
HasOneEnd (ends f t ∷ xs) = IsLate xs
HasOneEnd (x ∷ xs) = ⊥

pub one_end : (k : ℕ) (xs : List Change) (c : CommandState) → HasOneEnd xs → active_of k c ≡ 0 → owner_count k c.reset ≡ 0 → NoDone k c.notes →
    NoDone k (all_changed xs c).notes
one_end k [] c l a r h = h
one_end k (holds stops ∷ xs) c l a r h = one_end k xs (changed (holds stops) c) l a r h
one_end k (resets ∷ xs) c l a r h = one_end k xs (changed resets c) l a (nobody k) (more k c.notes _ h (to_other k c.reset finish.Done r))
one_end k (replaced (finish.Error n) None ws ∷ xs) c l a r h =
    one_end k xs (changed (replaced (finish.Error n) None ws) c) l (nobody k) r (more k c.notes _ h (all_any k c (finish.Error n) (λ e. cc)))
one_end k (replaced (finish.Error n) (Some w) ws ∷ xs) c l a r h = absurd l
one_end k (replaced finish.Done next ws ∷ xs) c l a r h = absurd l
one_end k (replaced finish.Aborted next ws ∷ xs) c l a r h = absurd l
one_end k (ends f t ∷ xs) c l a r h =
    let free : CommandState = record c { active = None; notes = c.notes ++ active_note f c.active } in
    late k xs (taken_over t c.waiting free) l (taken_same (λ o ns. owner_count k o ≡ 0) t c.waiting free r)
    (taken_same (λ o ns. NoDone k ns) t c.waiting free (more k c.notes (active_note f c.active) h (active_other k c.active f a)))
one_end k (joins w ∷ xs) c l a r h = absurd l
one_end k (awaits owner ∷ xs) c l a r h = absurd l

-- changes by which nothing ends Done
abbrev pub EndsNoneDone : List Change → Type 0
EndsNoneDone [] = Unit {0}
EndsNoneDone (holds stops ∷ xs) = EndsNoneDone xs
EndsNoneDone (joins w ∷ xs) = EndsNoneDone xs
EndsNoneDone (awaits owner ∷ xs) = EndsNoneDone xs
EndsNoneDone (replaced (finish.Error n) next ws ∷ xs) = EndsNoneDone xs
EndsNoneDone (replaced finish.Aborted next ws ∷ xs) = EndsNoneDone xs
EndsNoneDone (x ∷ xs) = ⊥

joined_none : (k : ℕ) (c : CommandState) (b : Bool) → NoDone k (if b then end_notes finish.Aborted (queue_of c) else [])
joined_none k c true = all_any k c finish.Aborted (λ e. cc)
joined_none k c false = tt

pub all_none : (k : ℕ) (xs : List Change) (c : CommandState) → EndsNoneDone xs → NoDone k c.notes → NoDone k (all_changed xs c).notes
all_none k [] c l h = h
all_none k (holds stops ∷ xs) c l h = all_none k xs (changed (holds stops) c) l h
all_none k (joins w ∷ xs) c l h = all_none k xs (changed (joins w) c) l (more k c.notes _ h (joined_none k c (is_aborting w.mode)))
all_none k (awaits owner ∷ xs) c l h = all_none k xs (changed (awaits owner) c) l (more k c.notes _ h (to_any k c.reset finish.Aborted (λ e. cc)))
all_none k (replaced (finish.Error n) next ws ∷ xs) c l h =
    all_none k xs (changed (replaced (finish.Error n) next ws) c) l (more k c.notes _ h (all_any k c (finish.Error n) (λ e. cc)))
all_none k (replaced finish.Aborted next ws ∷ xs) c l h =
    all_none k xs (changed (replaced finish.Aborted next ws) c) l (more k c.notes _ h (all_any k c finish.Aborted (λ e. cc)))
all_none k (replaced finish.Done next ws ∷ xs) c l h = absurd l
all_none k (ends f t ∷ xs) c l h = absurd l
all_none k (resets ∷ xs) c l h = absurd l

-- some changes and then others
pub late_more : (xs ys : List Change) → IsLate xs → IsLate ys → IsLate (xs ++ ys)
late_more [] ys l g = g
late_more (holds stops ∷ xs) ys l g = late_more xs ys l g
late_more (resets ∷ xs) ys l g = late_more xs ys l g
late_more (replaced (finish.Error n) None ws ∷ xs) ys l g = late_more xs ys l g
late_more (replaced (finish.Error n) (Some w) ws ∷ xs) ys l g = absurd l
late_more (replaced finish.Done next ws ∷ xs) ys l g = absurd l
late_more (replaced finish.Aborted next ws ∷ xs) ys l g = absurd l
late_more (joins w ∷ xs) ys l g = absurd l
late_more (ends f t ∷ xs) ys l g = absurd l
late_more (awaits owner ∷ xs) ys l g = absurd l

late_one : (xs : List Change) → IsLate xs → HasOneEnd xs
late_one [] l = tt
late_one (holds stops ∷ xs) l = late_one xs l
late_one (resets ∷ xs) l = late_one xs l
late_one (replaced (finish.Error n) None ws ∷ xs) l = late_one xs l
late_one (replaced (finish.Error n) (Some w) ws ∷ xs) l = absurd l
late_one (replaced finish.Done next ws ∷ xs) l = absurd l
late_one (replaced finish.Aborted next ws ∷ xs) l = absurd l
late_one (joins w ∷ xs) l = absurd l
late_one (ends f t ∷ xs) l = absurd l
late_one (awaits owner ∷ xs) l = absurd l

pub end_more : (xs ys : List Change) → HasOneEnd xs → IsLate ys → HasOneEnd (xs ++ ys)
end_more [] ys l g = late_one ys g
end_more (holds stops ∷ xs) ys l g = end_more xs ys l g
end_more (resets ∷ xs) ys l g = end_more xs ys l g
end_more (replaced (finish.Error n) None ws ∷ xs) ys l g = end_more xs ys l g
end_more (replaced (finish.Error n) (Some w) ws ∷ xs) ys l g = absurd l
end_more (replaced finish.Done next ws ∷ xs) ys l g = absurd l
end_more (replaced finish.Aborted next ws ∷ xs) ys l g = absurd l
end_more (joins w ∷ xs) ys l g = absurd l
end_more (ends f t ∷ xs) ys l g = late_more xs ys l g
end_more (awaits owner ∷ xs) ys l g = absurd l
