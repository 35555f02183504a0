-- What an event leaves of the commands that instances show.
-- for: owners_have_blocks
use Rattle.std.specs.Prelude.{◌≡◌, refl, ℕ, zero, suc, ◌+◌, ◌<◌, ◌≤◌, Bool, true, false, not, ◌&&◌, if◌then◌else◌, Option, Some, None, List, [], ◌∷◌, length, slice_get}
use Rattle.std.proofs.Common.{arith, ap, sym, subst, ◌∙◌, inl, inr}
use Rattle.std.proofs.lemmas.Bool.{and_parts, cases_Bool, cases_eq, eq-eqb, eqb-true}
use Rattle.std.proofs.lemmas.List.{length-set}
use Rattle.axis_core.specs.Cores as cores
use Rattle.buffer_modes.specs.Owners.{ends_given}
use Rattle.command_pool.specs.declared.notes.Note.{Note}
use Rattle.command_core.specs.Laws.{AreToldOnce, HaveCommands, HaveNoMore}
use Rattle.fb_outputs.specs.InstanceState.{InstanceState}
use Rattle.fb_outputs.specs.Steps.{is_power}
use Rattle.fb_outputs.specs.declared.instance.Progress.{Progress}
use Rattle.fb_outputs.specs.declared.instance.Progress.TheVariants.{Idle, Waiting, Active, Ended}
use Rattle.group_core.specs.Cores as group_cores
use Rattle.motion_history.specs.Setup.{Setup}
use Rattle.motion_history.specs.declared.config.BlockDef.{BlockDef}
use Rattle.motion_kernel.specs.calls.Calls.{with_axis_core, with_group_core}
use Rattle.motion_kernel.specs.Machine.{Machine, instance_at, list_of}
use Rattle.motion_kernel.specs.kept.Machine.{IsSized}
use Rattle.motion_kernel.specs.calls.Telling.{told_notes}
use Rattle.motion_kernel.specs.owners.Commands.{CommandsAreShown, commands_at, commands_shown}
use Rattle.motion_kernel.specs.owners.Objects.{IsThere, Object, has_commands_on, is_same, object_of, a_group, an_axis}
use Rattle.motion_kernel.proofs.owners.Counts.{shown_by, told_shows_none, untold_stays}
use Rattle.motion_kernel.proofs.walk.Keeps.{WalkLaws}

-- the laws on which it rests that commands are where their instances show
pub record OwnerLaws : Type 0 where
  pub walk : WalkLaws
  pub once : AreToldOnce
  pub more : HaveNoMore
  pub hold : HaveCommands

-- objects that are the same
pub same_object : (o p : Object) → is_same o p ≡ true → o ≡ p
same_object (an_axis n) (an_axis k) e = ap an_axis (eqb-true n k e)
same_object (an_axis n) (a_group j) e = absurd (cc)
same_object (a_group j) (an_axis n) e = absurd (cc)
same_object (a_group j) (a_group k) e = ap a_group (eqb-true j k e)

pub is_itself : (o : Object) → is_same o o ≡ true
is_itself (an_axis n) = eq-eqb n n refl
is_itself (a_group j) = eq-eqb j j refl

-- a block has its commands on one of them
pub beside_none : (b : Option BlockDef) (o p : Object) → has_commands_on b o ≡ true →
    is_same o p ≡ false → has_commands_on b p ≡ false
beside_none None o p e d = absurd (cc)
beside_none (Some b) o p e d =
    let parts = and_parts (not (is_power b.kind)) (is_same (object_of b) o) e in
    let same = same_object (object_of b) o parts.1 in
    let other : is_same (object_of b) p ≡ false = ap (λ x. is_same x p) same ∙ d in
    let none : (x y : Bool) → y ≡ false → x && y ≡ false = λ x y h. elim x as
    (λ z. z && y ≡ false) [ true ↦ h | false ↦ refl ] in
    none (not (is_power b.kind)) (is_same (object_of b) p) other

pub there_where : {X : Type 0} (xs : List X) (k : ℕ) (x : X) → slice_get xs k ≡ Some x →
    k < length xs
there_where [] k x e = absurd (cc)
there_where (y ∷ ys) zero x e = omega arith
there_where (y ∷ ys) (suc k) x e = let l = there_where ys k x e in omega arith

pub block_there : (blocks : List BlockDef) (k : ℕ) (o : Object) → has_commands_on
    (slice_get blocks k) o ≡ true → k < length blocks
block_there [] k o e = absurd (cc)
block_there (b ∷ bs) zero o e = omega arith
block_there (b ∷ bs) (suc k) o e = let l = block_there bs k o e in omega arith

-- an instance's commands are where it shows
abbrev pub ShownOf : Setup → ℕ → Machine → Type 0
ShownOf s k m = (o : Object) → IsThere m o →
    commands_at m k o ≡
    (if has_commands_on (slice_get s.blocks k) o then shown_by m.instances k else 0)

-- what an event changes of an instance's commands: at one object, those that it has and those of
-- of whose end it is notified stay the same together
pub record Changes (k : ℕ) (m x : Machine) (o : Object) (ns : List Note) : Type 0 where
  pub there : IsThere m o
  pub as_many : (p : Object) → IsThere x p → IsThere m p
  pub here : commands_at x k o + ends_given k ns ≡ commands_at m k o
  pub beside : (p : Object) → IsThere m p → is_same o p ≡ false →
      commands_at x k p ≡ commands_at m k p
  pub told : x.instances ≡ told_notes ns m.instances

-- one that is given nothing has its commands as before
pub untold_commands : (k : ℕ) (m x : Machine) (o : Object) (ns : List Note) → Changes k m x o ns →
    ends_given k ns ≡ 0 →
    (p : Object) → IsThere m p → commands_at x k p ≡ commands_at m k p
untold_commands k m x o ns h none p there = elim (cases_Bool (is_same o p)) [
  | inl e ↦ subst (λ q. commands_at x k q ≡ commands_at m k q) (same_object o p e)
      (let all = h.here in omega arith)
  | inr d ↦ h.beside p there d
]

pub shown_where : (b : Bool) (n : ℕ) → 0 < (if b then n else 0) → b ≡ true
shown_where true n l = refl
shown_where false n l = absurd (omega arith)

pub most_one : (p : Progress) → commands_shown p ≤ 1
most_one Idle = omega arith
most_one Waiting = omega arith
most_one Active = omega arith
most_one (Ended f shown) = omega arith

pub shown_if : (b : Bool) (n c : ℕ) → b ≡ true → c ≡ (if b then n else 0) → c ≡ n
shown_if true n c e h = h
shown_if false n c e h = absurd (cc)

pub not_shown : (b : Bool) (n c : ℕ) → b ≡ false → c ≡ (if b then n else 0) → c ≡ 0
not_shown true n c e h = absurd (cc)
not_shown false n c e h = h

pub none_if : (b : Bool) (n c : ℕ) → n ≡ 0 → c ≡ 0 → c ≡ (if b then n else 0)
none_if true n c e h = omega arith
none_if false n c e h = h

pub none_beside : (b : Bool) (n c : ℕ) → b ≡ false → c ≡ 0 → c ≡ (if b then n else 0)
none_beside true n c e h = absurd (cc)
none_beside false n c e h = h

-- one that is reported has none any more
pub told_shown : (s : Setup) (k : ℕ) (m x : Machine) (o : Object) (ns : List Note) →
    Changes k m x o ns → 0 < ends_given k ns → ShownOf s k m → ShownOf s k x
told_shown s k m x o ns h l shown p there =
    let b = slice_get s.blocks k in
    let was = shown o h.there in
    let all = h.here in
    let on = shown_where (has_commands_on b o) (shown_by m.instances k) (omega arith) in
    let one = shown_if (has_commands_on b o) (shown_by m.instances k) (commands_at m k o) on was in
    let most = most_one (instance_at m.instances k).progress in
    let left : commands_at x k o ≡ 0 = omega arith in
    let none : shown_by x.instances k ≡ 0 = ap (λ is. shown_by is k) h.told
    ∙ told_shows_none k ns m.instances l in
    elim (cases_Bool (is_same o p)) [
      | inl e ↦ none_if (has_commands_on b p) (shown_by x.instances k) (commands_at x k p) none
          (subst (λ q. commands_at x k q ≡ 0) (same_object o p e) left)
      | inr d ↦
          let off = beside_none b o p on d in
          let before = not_shown (has_commands_on b p) (shown_by m.instances k)
          (commands_at m k p) off (shown p (h.as_many p there)) in
          none_beside (has_commands_on b p) (shown_by x.instances k) (commands_at x k p) off
          (h.beside p (h.as_many p there) d ∙ before)
    ]

pub untold_shown : (s : Setup) (k : ℕ) (m x : Machine) (o : Object) (ns : List Note) →
    Changes k m x o ns → ends_given k ns ≡ 0 → ShownOf s k m → ShownOf s k x
untold_shown s k m x o ns h e shown p there =
    let b = slice_get s.blocks k in
    let same : shown_by x.instances k ≡ shown_by m.instances k =
    ap (λ is. shown_by is k) h.told ∙ ap (λ (i : InstanceState). commands_shown i.progress)
    (untold_stays k ns m.instances e) in
    untold_commands k m x o ns h e p (h.as_many p there) ∙ shown p (h.as_many p there)
    ∙ ap (λ n. if has_commands_on b p then n else 0) (sym same)

pub event_shown : (s : Setup) (k : ℕ) (m x : Machine) (o : Object) (ns : List Note) →
    Changes k m x o ns → ShownOf s k m → ShownOf s k x
event_shown s k m x o ns h shown = elim (cases_eq (ends_given k ns) 0) [
  | inl e ↦ untold_shown s k m x o ns h e shown
  | inr d ↦ told_shown s k m x o ns h (omega arith) shown
]

-- an event of an axis
pub axis_as_many : (m : Machine) (n : ℕ) (c : cores.Core) (p : Object) → IsThere
    (with_axis_core m n c) p → IsThere m p
axis_as_many m n c (an_axis k) l = let size = length-set m.axes n c.axis in omega arith
axis_as_many m n c (a_group j) l = l

pub lists_there : (s : Setup) (m : Machine) (n : ℕ) → IsSized s m → n < length m.axes →
    n < length m.queues
lists_there s m n h l = let a = h.axes in let q = h.queues in omega arith

-- an event of a group
pub group_as_many : (m : Machine) (j : ℕ) (c : group_cores.Core) (p : Object) → IsThere
    (with_group_core m j c) p → IsThere m p
group_as_many m j c (an_axis n) l = l
group_as_many m j c (a_group k) l =
    let size = length-set m.groups j (record { group = c.group; path = c.path }) in omega arith

pub group_list : (s : Setup) (m : Machine) (j : ℕ) → IsSized s m → j < length m.groups →
    list_of m j < length m.queues
group_list s m j h l = let a = h.axes in let g = h.groups in let q = h.queues in omega arith

-- where nothing else changes than what an instance shows not
pub instances_shown : (s : Setup) (k : ℕ) (m : Machine) (is : List InstanceState) →
    shown_by is k ≡ shown_by m.instances k → ShownOf s k m →
    ShownOf s k (record m { instances = is })
instances_shown s k m is e shown (an_axis n) there = shown (an_axis n) there ∙ ap
    (λ x. if has_commands_on (slice_get s.blocks k) (an_axis n) then x else 0) (sym e)
instances_shown s k m is e shown (a_group j) there = shown (a_group j) there ∙ ap
    (λ x. if has_commands_on (slice_get s.blocks k) (a_group j) then x else 0) (sym e)

-- all are where they are shown, in a machine of its configuration's sizes
pub record IsGood (s : Setup) (m : Machine) : Type 0 where
  pub sized : IsSized s m
  pub shown : CommandsAreShown s m
