-- Changes leave commands of their blocks' kinds, where those that they bring are.
-- for: owners_have_blocks
use Rattle.std.specs.Prelude.{◌≡◌, refl, ℕ, Bool, true, false, nat_eq, ℤ, if◌then◌else◌, Option, Some, None, List, [], ◌∷◌, ◌++◌, map}
use Rattle.std.specs.List.{AllByRecursion}
use Rattle.std.proofs.Common.{ap, sym, ◌∙◌}
use Rattle.buffer_modes.specs.Owners.{active_without}
use Rattle.buffer_modes.specs.Queue.{Commands, active_note, behind, is_aborting}
use Rattle.command_core.specs.Brought.{BringNone, BringsNone}
use Rattle.command_core.specs.Changes.{Change, joins, replaced, ends, awaits, resets, holds, all_changed, changed, taken_over, with_known}
use Rattle.command_core.specs.CommandState.{CommandState, disowned}
use Rattle.command_pool.specs.Waiting.{detached, without}
use Rattle.command_pool.specs.declared.wanted.Wanted.{Wanted}
use Rattle.motion_history.specs.Setup.{Setup}
use Rattle.motion_kernel.specs.owners.Kinds.{AreOfTheirBlocks, IsOfAReset, IsOfItsBlock}

-- the command that may be there
abbrev pub IsOwn : Setup → Option Wanted → Type 0
IsOwn s o = (w : Wanted) → o ≡ Some w → IsOfItsBlock s w

-- what a change brings is of its block's kind
abbrev pub BringsOwn : Setup → Change → Type 0
BringsOwn s (joins w) = IsOfItsBlock s w
BringsOwn s (replaced f next ws) = IsOwn s next × AllByRecursion (IsOfItsBlock s) ws
BringsOwn s (ends f target) = Unit {0}
BringsOwn s (awaits owner) = IsOfAReset s owner
BringsOwn s resets = Unit {0}
BringsOwn s (holds stops) = Unit {0}

abbrev pub BringOwn : Setup → List Change → Type 0
BringOwn s [] = Unit {0}
BringOwn s (x ∷ xs) = BringsOwn s x × BringOwn s xs

module _ (s : Setup) where
  pub nobody_own : IsOwn s None
  nobody_own w e = absurd (cc)

  pub some_own : (w : Wanted) → IsOfItsBlock s w → IsOwn s (Some w)
  some_own w h v e k b owned at = let same : w ≡ v = cc in ap (λ (x : Wanted). x.kind) (sym same) ∙ h k b (ap (λ (x : Wanted). x.owner) same ∙ owned) at

  -- one that nobody has
  pub ownerless : (w : Wanted) → w.owner ≡ None → IsOfItsBlock s w
  ownerless w none k b owned at = absurd (let e : None ≡ Some k = sym none ∙ owned in cc)

  no_reset : IsOfAReset s None
  no_reset k b e at = absurd (cc)

  -- changes that bring none
  none_own : (x : Change) → BringsNone x → BringsOwn s x
  none_own (joins w) h = absurd h
  none_own (replaced f next ws) h = ((λ w e. absurd (let z : None ≡ Some w = sym h.0 ∙ e in cc)), no_waiting ws h.1)
    where
      no_waiting : (vs : List Wanted) → vs ≡ [] → AllByRecursion (IsOfItsBlock s) vs
      no_waiting [] e = tt
      no_waiting (v ∷ vs) e = absurd (cc)
  none_own (ends f target) h = tt
  none_own (awaits owner) h = absurd h
  none_own resets h = tt
  none_own (holds stops) h = tt

  pub all_none_own : (xs : List Change) → BringNone xs → BringOwn s xs
  all_none_own [] h = tt
  all_none_own (x ∷ xs) h = (none_own x h.0, all_none_own xs h.1)

  -- one that joins the others
  more_own : (ws : List Wanted) (w : Wanted) → AllByRecursion (IsOfItsBlock s) ws → IsOfItsBlock s w → AllByRecursion (IsOfItsBlock s) (ws ++ w ∷ [])
  more_own [] w h g = (g, tt)
  more_own (v ∷ vs) w h g = (h.0, more_own vs w h.1 g)

  record QueueOwn (c : Commands) : Type 0 where
    first : IsOwn s c.active
    rest : AllByRecursion (IsOfItsBlock s) c.waiting

  joined_own : (b : Bool) (active : Option Wanted) (ws : List Wanted) (w : Wanted) → IsOwn s active → AllByRecursion (IsOfItsBlock s) ws → IsOfItsBlock s w →
      QueueOwn (if b then record { active = Some w; waiting = [] } else behind active ws w)
  joined_own true active ws w a h g = record { first = some_own w g; rest = tt }
  joined_own false None ws w a h g = record { first = some_own w g; rest = h }
  joined_own false (Some v) ws w a h g = record { first = a; rest = more_own ws w h g }

  -- the first that waits takes over
  known_own : (t : Option ℤ) (w : Wanted) → IsOfItsBlock s w → IsOfItsBlock s (with_known t w)
  known_own None w h = h
  known_own (Some t) w h = h

  taken_own : (t : Option ℤ) (ws : List Wanted) (c : CommandState) → AllByRecursion (IsOfItsBlock s) ws → AreOfTheirBlocks s c → AreOfTheirBlocks s (taken_over t ws c)
  taken_own t [] c h a = a
  taken_own t (w ∷ ws) c h a = record { active = some_own (with_known t w) (known_own t w h.0); waiting = h.1; reset = a.reset }

  one_own : (x : Change) (c : CommandState) → BringsOwn s x → AreOfTheirBlocks s c → AreOfTheirBlocks s (changed x c)
  one_own (joins w) c h a =
      let q = joined_own (is_aborting w.mode) c.active c.waiting w a.active a.waiting h in
      record { active = q.first; waiting = q.rest; reset = a.reset }
  one_own (replaced f next ws) c h a = record { active = h.0; waiting = h.1; reset = a.reset }
  one_own (ends f target) c h a =
      taken_own target c.waiting (record c { active = None; notes = c.notes ++ active_note f c.active }) a.waiting
      (record { active = nobody_own; waiting = a.waiting; reset = a.reset })
  one_own (awaits owner) c h a = record { active = a.active; waiting = a.waiting; reset = h }
  one_own resets c h a = record { active = a.active; waiting = a.waiting; reset = no_reset }
  one_own (holds stops) c h a = record { active = a.active; waiting = a.waiting; reset = a.reset }

  pub all_own : (xs : List Change) (c : CommandState) → BringOwn s xs → AreOfTheirBlocks s c → AreOfTheirBlocks s (all_changed xs c)
  all_own [] c h a = a
  all_own (x ∷ xs) c h a = all_own xs (changed x c) h.1 (one_own x c h.0 a)

  -- where an owner is taken away
  still_owned : (gone k : ℕ) (o : Option ℕ) → without gone o ≡ Some k → o ≡ Some k
  still_owned gone k None e = absurd (cc)
  still_owned gone k (Some j) e = by (nat_eq j gone) e
    where
      by : (b : Bool) → (if b then None else Some j) ≡ Some k → Some j ≡ Some k
      by true f = absurd (cc)
      by false f = f

  left_own : (gone : ℕ) (w : Wanted) → IsOfItsBlock s w → IsOfItsBlock s (detached gone w)
  left_own gone w h k b owned at = h k b (still_owned gone k w.owner owned) at

  left_active : (gone : ℕ) (active : Option Wanted) → IsOwn s active → IsOwn s (active_without gone active)
  left_active gone None h = nobody_own
  left_active gone (Some w) h = some_own (detached gone w) (left_own gone w (h w refl))

  left_waiting : (gone : ℕ) (ws : List Wanted) → AllByRecursion (IsOfItsBlock s) ws → AllByRecursion (IsOfItsBlock s) (map (detached gone) ws)
  left_waiting gone [] h = tt
  left_waiting gone (w ∷ ws) h = (left_own gone w h.0, left_waiting gone ws h.1)

  pub disowned_own : (gone : ℕ) (c : CommandState) → AreOfTheirBlocks s c → AreOfTheirBlocks s (disowned gone c)
  disowned_own gone c a = record {
    active = left_active gone c.active a.active;
    waiting = left_waiting gone c.waiting a.waiting;
    reset = λ k b e at. a.reset k b (still_owned gone k c.reset e) at;
  }
