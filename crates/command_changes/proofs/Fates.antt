-- A fate that ends and begins as changes do is what becomes of the active command by them.
-- for: axis_fates_are_told, axis_changes_are_made, group_fates_are_told and others
use Rattle.std.specs.Prelude.{◌≡◌, refl, Option, Some, None, List, [], ◌∷◌, ◌++◌}
use Rattle.std.proofs.Common.{◌∙◌, ap, sym, subst}
use Rattle.buffer_modes.specs.Fates.{Fate, goes_on}
use Rattle.command_core.specs.Changes.{Change, all_changed, changed}
use Rattle.command_core.specs.CommandState.{CommandState}
use Rattle.command_core.specs.Fates.{fate_in, fate_of, followed_by}
use Rattle.command_core.specs.Laws.{AreOfChanges}
use Rattle.command_pool.specs.declared.ending.Finish.{Finish}
use Rattle.command_pool.specs.declared.wanted.Wanted.{Wanted}
use Rattle.command_changes.specs.Fates.{IsFateBy}

-- two fates end and begin alike
pub record Alike (f g : Fate) : Type 0 where
  pub ends : f.ends ≡ g.ends
  pub begins : f.begins ≡ g.begins

-- a fate is alike that of changes
abbrev pub By : CommandState → Fate → List Change → Type 0
By c f xs = Alike f (fate_in xs c)

-- changes by which the active command goes on
abbrev pub AreQuiet : List Change → Type 0
AreQuiet [] = Unit {0}
AreQuiet (x ∷ xs) = ((c : CommandState) → fate_of x c ≡ goes_on) × AreQuiet xs

pub both_quiet : (xs ys : List Change) → AreQuiet xs → AreQuiet ys → AreQuiet (xs ++ ys)
both_quiet [] ys h k = k
both_quiet (x ∷ xs) ys h k = (h.0, both_quiet xs ys h.1 k)

-- by them it goes on
quiet : (xs : List Change) (c : CommandState) → AreQuiet xs → fate_in xs c ≡ goes_on
quiet [] c h = refl
quiet (x ∷ xs) c h =
    ap (λ (f : Fate). followed_by f.ends f.begins (fate_in xs (changed x c))) (h.0 c) ∙ quiet xs (changed x c) h.1

-- after others they leave its fate
then_quiet : (xs ys : List Change) (c : CommandState) → AreQuiet ys → fate_in (xs ++ ys) c ≡ fate_in xs c
then_quiet [] ys c h = quiet ys c h
then_quiet (x ∷ xs) ys c h = ap (followed_by (fate_of x c).ends (fate_of x c).begins) (then_quiet xs ys (changed x c) h)

pub before_quiet : (f : Fate) (xs ys : List Change) (c : CommandState) → AreQuiet ys → By c f xs → By c f (xs ++ ys)
before_quiet f xs ys c q h = subst (Alike f) (sym (then_quiet xs ys c q)) h

-- a change and quiet ones after it
alone : (e : Option Finish) (b : Option Wanted) →
    ((followed_by e b goes_on).ends ≡ e) × ((followed_by e b goes_on).begins ≡ b)
alone None None = (refl, refl)
alone None (Some w) = (refl, refl)
alone (Some e) b = (refl, refl)

pub single : (x : Change) (ys : List Change) (c : CommandState) → AreQuiet ys → By c (fate_of x c) (x ∷ ys)
single x ys c h =
    let one = alone (fate_of x c).ends (fate_of x c).begins in
    subst (λ g. Alike (fate_of x c) (followed_by (fate_of x c).ends (fate_of x c).begins g)) (sym (quiet ys (changed x c) h))
    (record { ends = sym one.0; begins = sym one.1 })

-- so it is what becomes of the active command
pub fated : AreOfChanges → (f : Fate) (xs : List Change) (c d : CommandState) → By c f xs → d ≡ all_changed xs c → IsFateBy f xs c d
fated laws f xs c d h made =
    let shown = laws.fates xs c in
    subst (IsFateBy f xs c) (sym made) (record {
      ends = h.ends;
      begins = h.begins;
      shown = record {
        begins = λ w e. shown.begins w (sym h.begins ∙ e);
        ends = λ n e. shown.ends (λ x. n (h.ends ∙ x)) (sym h.begins ∙ e);
        goes_on = λ e b. shown.goes_on (sym h.ends ∙ e) (sym h.begins ∙ b);
        was = λ n. shown.was (λ x. n (h.ends ∙ x));
      };
      told = λ owner g e o. laws.told xs c owner g (sym h.ends ∙ e) o;
    })
