-- At most eight commands wait.
-- for: at_most_eight_wait
use Rattle.std.specs.Prelude.{◌≡◌, refl, suc, ◌≤◌, Bool, true, false, not, ◌&&◌, nat_eq, ℤ, Option, Some, None, is_some, List, [], ◌∷◌, ◌++◌, length, if◌then◌else◌}
use Rattle.std.proofs.Common.{ap, subst, arith, inl, inr}
use Rattle.std.proofs.lemmas.Bool.{cases_eq}
use Rattle.std.proofs.lemmas.List.{length-append}
use Rattle.buffer_modes.specs.Queue.{Commands, active_note, behind, is_aborting}
use Rattle.command_pool.specs.declared.wanted.Wanted.{Wanted}
use Rattle.command_core.specs.Brought.{BringNone, BringsNone}
use Rattle.command_core.specs.Changes.{AllFit, Change, Fits, joins, replaced, ends, awaits, resets, holds, all_changed, changed, taken_over}
use Rattle.command_core.specs.CommandState.{CommandState}

-- a command that joins finds a place
joined_few : (aborts : Bool) (active : Option Wanted) (ws : List Wanted) (w : Wanted) →
    (not aborts && (is_some active && nat_eq (length ws) 8)) ≡ false → length ws ≤ 8 →
    length (let after : Commands = if aborts then record { active = Some w; waiting = [] } else behind active ws w in after).waiting ≤ 8
joined_few true active ws w free few = omega arith
joined_few false None ws w free few = few
joined_few false (Some v) ws w free few =
    let many = length-append ws (w ∷ []) in
    elim (cases_eq (length ws) 8) [
      | inl full ↦ absurd (let f : nat_eq 8 8 ≡ false = subst (λ n. nat_eq n 8 ≡ false) full free in cc)
      | inr room ↦ omega (arith, many, few, room)
    ]

taken_less : (t : Option ℤ) (ws : List Wanted) (c : CommandState) → c.waiting ≡ ws → length (taken_over t ws c).waiting ≤ length c.waiting
taken_less t [] c e = omega arith
taken_less t (w ∷ ws) c e = let many : length c.waiting ≡ suc (length ws) = ap length e in omega arith

few_by : (x : Change) (c : CommandState) → Fits x c → length c.waiting ≤ 8 → length (changed x c).waiting ≤ 8
few_by (joins w) c fits few = joined_few (is_aborting w.mode) c.active c.waiting w fits few
few_by (replaced f next ws) c fits few = fits
few_by (ends f target) c fits few =
    let t = taken_less target c.waiting (record c { active = None; notes = c.notes ++ active_note f c.active }) refl in omega arith
few_by (awaits owner) c fits few = few
few_by resets c fits few = few
few_by (holds stops) c fits few = few

pub eight : (xs : List Change) (c : CommandState) → AllFit xs c → length c.waiting ≤ 8 → length (all_changed xs c).waiting ≤ 8
eight [] c fit few = few
eight (x ∷ xs) c fit few = eight xs (changed x c) fit.1 (few_by x c fit.0 few)

less_by : (x : Change) (c : CommandState) → BringsNone x → length (changed x c).waiting ≤ length c.waiting
less_by (joins w) c none = absurd none
less_by (replaced f next ws) c none = let e : length ws ≡ 0 = ap length none.1 in omega arith
less_by (ends f target) c none =
    taken_less target c.waiting (record c { active = None; notes = c.notes ++ active_note f c.active }) refl
less_by (awaits owner) c none = absurd none
less_by resets c none = omega arith
less_by (holds stops) c none = omega arith

pub before : (xs : List Change) (c : CommandState) → BringNone xs → length (all_changed xs c).waiting ≤ length c.waiting
before [] c none = omega arith
before (x ∷ xs) c none =
    let a = less_by x c none.0 in
    let b = before xs (changed x c) none.1 in
    omega arith
