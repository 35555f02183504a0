-- What events leave of the commands of an axis or a group, and of an instance that has its commands
-- there.
-- for: replies_show_commands, entries_make_outcomes, results_are_told and others
use Rattle.std.specs.Prelude.{◌≡◌, ◌≢◌, refl, ℕ, zero, suc, ◌<◌, ◌≤◌, Bool, true, false, nat_eq, if◌then◌else◌, List, [], ◌++◌, length, slice_get}
use Rattle.std.proofs.Common.{arith, ap, sym, subst, ◌∙◌, inl, inr}
use Rattle.std.proofs.lemmas.Bool.{cases_Bool, cases_eq, eqb-true}
use Rattle.command_core.specs.Brought.{brought}
use Rattle.command_core.specs.Changes.{Change, all_changed}
use Rattle.command_core.specs.CommandState.{CommandState}
use Rattle.command_core.specs.Laws.{AreInOrder}
use Rattle.fb_outputs.specs.InstanceState.{InstanceState}
use Rattle.motion_history.specs.Setup.{Setup}
use Rattle.motion_kernel.specs.Machine.{Machine}
use Rattle.motion_kernel.specs.owners.Commands.{commands_shown}
use Rattle.motion_kernel.specs.owners.Objects.{a_group, an_axis, IsThere, Object, has_commands_on, is_same}
use Rattle.motion_laws.proofs.owners.Events.{event_changes}
use Rattle.motion_kernel.proofs.owners.Blocks.{untold}
use Rattle.motion_kernel.proofs.owners.commands.Events.{OwnerLaws, ShownOf, beside_none, is_itself, same_object}
use Rattle.motion_laws.proofs.results.Events.{IsSpared, event_spares, progress_in}
use Rattle.motion_laws.proofs.results.outcomes.Notes.{progress_told, told_exact, told_more}
use Rattle.motion_kernel.proofs.walk.Keeps.{Event, command_state_at}

-- both are as they were
pub record Spares (k : ℕ) (o : Object) (m x : Machine) : Type 0 where
  pub command_state : command_state_at x o ≡ command_state_at m o
  pub progress : progress_in x.instances k ≡ progress_in m.instances k

-- these changes were made, and the instance was notified of them
pub record Leaves (k : ℕ) (o : Object) (xs : List Change) (m x : Machine) : Type 0 where
  pub command_state : command_state_at x o ≡ record (all_changed xs (command_state_at m o)) { notes = [] }
  pub progress : progress_in x.instances k
      ≡ progress_told k (all_changed xs (command_state_at m o)).notes (progress_in m.instances k)

module _ (k : ℕ) (o : Object) where
  pub spares_none : (m : Machine) → Spares k o m m
  spares_none m = record { command_state = refl; progress = refl }

  pub spares_more : (m x y : Machine) → Spares k o m x → Spares k o x y → Spares k o m y
  spares_more m x y a b = record { command_state = b.command_state ∙ a.command_state; progress = b.progress ∙ a.progress }

  -- some events before, and after
  pub leaves_behind : (xs : List Change) (m x y : Machine) → Spares k o m x → Leaves k o xs x y → Leaves k o xs m y
  leaves_behind xs m x y a b = record {
    command_state = b.command_state ∙ ap (λ c. record (all_changed xs c) { notes = [] }) a.command_state;
    progress = b.progress ∙ (λ i. progress_told k (all_changed xs (a.command_state i)).notes (a.progress i));
  }

  pub leaves_before : (xs : List Change) (m x y : Machine) → Leaves k o xs m x → Spares k o x y → Leaves k o xs m y
  leaves_before xs m x y a b = record { command_state = b.command_state ∙ a.command_state; progress = b.progress ∙ a.progress }

  -- nothing is changed
  pub leaves_none : (m x : Machine) → Spares k o m x → Leaves k o [] m x
  leaves_none m x a = record {
    command_state = a.command_state ∙ ap (λ ns. record (command_state_at m o) { notes = ns }) (untold m o);
    progress = a.progress ∙ ap (λ ns. progress_told k ns (progress_in m.instances k)) (sym (untold m o));
  }

  pub spares_of : (m x : Machine) → Leaves k o [] m x → Spares k o m x
  spares_of m x a = record {
    command_state = a.command_state ∙ ap (λ ns. record (command_state_at m o) { notes = ns }) (sym (untold m o));
    progress = a.progress ∙ ap (λ ns. progress_told k ns (progress_in m.instances k)) (untold m o);
  }

  -- some changes, and then others
  pub leaves_more : AreInOrder → (xs ys : List Change) (m x y : Machine) → Leaves k o xs m x → Leaves k o ys x y → Leaves k o (xs ++ ys) m y
  leaves_more order xs ys m x y a b =
      let c = command_state_at m o in
      let d = all_changed xs c in
      let p = progress_in m.instances k in
      let later : CommandState → CommandState = λ e. all_changed ys e in
      let all : all_changed (xs ++ ys) c
      ≡ record (later (record d { notes = [] })) { notes = d.notes ++ (later (record d { notes = [] })).notes } =
      order.more xs ys c ∙ order.notes ys d in
      record {
        command_state = b.command_state ∙ ap (λ e. record (later e) { notes = [] }) a.command_state ∙ ap (λ (e : CommandState). record e { notes = [] }) (sym all);
        progress = b.progress ∙ (λ i. progress_told k (later (a.command_state i)).notes (a.progress i))
            ∙ sym (told_more k d.notes (later (record d { notes = [] })).notes p)
            ∙ ap (λ (e : CommandState). progress_told k e.notes p) (sym all);
      }

  -- an event there
  pub event_leaves : (xs : List Change) (m x : Machine) → Event m x o xs → k < length m.instances → Leaves k o xs m x
  event_leaves xs m x e place = record {
    command_state = e.here;
    progress = ap (λ is. progress_in is k) e.told ∙ told_exact k (all_changed xs (command_state_at m o)).notes m.instances place;
  }

-- changes of one object are these of another, where they are the same, and else none
pub record IsWhere (p o : Object) (ys zs : List Change) : Type 0 where
  pub here : is_same p o ≡ true → ys ≡ zs
  pub beside : is_same p o ≡ false → zs ≡ []

pub axis_where : (n p : ℕ) (ys : ℕ → List Change) (zs : Bool → List Change) → zs true ≡ ys p → zs false ≡ [] →
    IsWhere (an_axis n) (an_axis p) (ys n) (zs (nat_eq n p))
axis_where n p ys zs same none = record {
  here = λ e. ap ys (eqb-true n p e) ∙ sym same ∙ ap zs (sym e);
  beside = λ d. ap zs d ∙ none;
}

pub group_where : (n p : ℕ) (ys : ℕ → List Change) (zs : Bool → List Change) → zs true ≡ ys p → zs false ≡ [] →
    IsWhere (a_group n) (a_group p) (ys n) (zs (nat_eq n p))
group_where n p ys zs same none = record {
  here = λ e. ap ys (eqb-true n p e) ∙ sym same ∙ ap zs (sym e);
  beside = λ d. ap zs d ∙ none;
}

pub elsewhere : (p o : Object) (ys zs : List Change) → is_same p o ≡ false → zs ≡ [] → IsWhere p o ys zs
elsewhere p o ys zs other none = record { here = λ e. absurd (cc); beside = λ d. none }

-- they bring an instance as little
pub where_brings : (k : ℕ) (p o : Object) (ys zs : List Change) → IsWhere p o ys zs → brought k ys ≡ 0 → brought k zs ≡ 0
where_brings k p o ys zs places none = elim (cases_Bool (is_same p o)) [
  | inl e ↦ ap (brought k) (sym (places.here e)) ∙ none
  | inr d ↦ ap (brought k) (places.beside d)
]

-- an instance that has its commands elsewhere is spared
pub spared_beside : (s : Setup) (k : ℕ) (is : List InstanceState) (o p : Object) → has_commands_on (slice_get s.blocks k) o ≡ true →
    is_same o p ≡ false → IsSpared s k is p
spared_beside s k is o p on d =
    ap (λ b. if b then commands_shown (progress_in is k) else 0) (beside_none (slice_get s.blocks k) o p on d)

-- an object that is another one than this is so the other way about
other_way : (o p : Object) → is_same p o ≡ false → is_same o p ≡ false
other_way o p d = elim (cases_Bool (is_same o p)) [
  | inl e ↦ absurd (let x : is_same p o ≡ true = subst (λ q. is_same q o ≡ true) (same_object o p e) (is_itself o) in cc)
  | inr e ↦ e
]

module _ (laws : OwnerLaws) (s : Setup) (k : ℕ) (o : Object) (on : has_commands_on (slice_get s.blocks k) o ≡ true) where
  -- an event elsewhere
  pub event_beside : (p : Object) (ys : List Change) (m x : Machine) → Event m x p ys → is_same p o ≡ false → is_same o p ≡ false → IsThere m o →
      brought k ys ≡ 0 → ShownOf s k m → Spares k o m x
  event_beside p ys m x e d b there none shown = record {
    command_state = e.beside o there d;
    progress = ap (λ (i : InstanceState). i.progress)
        (event_spares s k m x p _ (event_changes laws k m x p ys e none) shown (spared_beside s k m.instances o p on b));
  }

  -- events one after another, each at an object of its own
  pub record Folds (n : ℕ) (run : ℕ → Machine) (at : ℕ → Object) (xs : ℕ → List Change) : Type 0 where
    pub event : (i : ℕ) → i < n → Event (run i) (run (suc i)) (at i) (xs i)
    pub none : (i : ℕ) → i < n → brought k (xs i) ≡ 0
    pub shown : (i : ℕ) → i < n → ShownOf s k (run i)
    pub there : (i : ℕ) → i < n → IsThere (run i) o
    pub place : (i : ℕ) → i < n → k < length (run i).instances

  -- none of them at this one
  pub fold_beside : (n most : ℕ) (run : ℕ → Machine) (at : ℕ → Object) (xs : ℕ → List Change) → Folds most run at xs → n ≤ most →
      ((i : ℕ) → i < n → is_same (at i) o ≡ false) → ((i : ℕ) → i < n → is_same o (at i) ≡ false) → Spares k o (run 0) (run n)
  fold_beside zero most run at xs f l d b = spares_none k o (run 0)
  fold_beside (suc n) most run at xs f l d b =
      spares_more k o (run 0) (run n) (run (suc n)) (fold_beside n most run at xs f (omega arith) (λ i h. d i (omega arith)) (λ i h. b i (omega arith)))
      (event_beside (at n) (xs n) (run n) (run (suc n)) (f.event n (omega arith)) (d n (omega arith)) (b n (omega arith))
      (f.there n (omega arith)) (f.none n (omega arith)) (f.shown n (omega arith)))

  -- one of them is
  pub fold_at : (j n most : ℕ) (run : ℕ → Machine) (at : ℕ → Object) (xs : ℕ → List Change) → Folds most run at xs → n ≤ most → j < n → at j ≡ o →
      ((i : ℕ) → i ≢ j → is_same (at i) o ≡ false) → ((i : ℕ) → i ≢ j → is_same o (at i) ≡ false) → Leaves k o (xs j) (run 0) (run n)
  fold_at j zero most run at xs f l h is d b = absurd (omega arith)
  fold_at j (suc n) most run at xs f l h is d b = elim (cases_eq j n) [
    | inl e ↦
        let before = fold_beside n most run at xs f (omega arith) (λ i z. d i (λ w. omega arith)) (λ i z. b i (λ w. omega arith)) in
        let here : at n ≡ o = ap at (sym e) ∙ is in
        let event = subst (λ p. Event (run n) (run (suc n)) p (xs n)) here (f.event n (omega arith)) in
        subst (λ i. Leaves k o (xs i) (run 0) (run (suc n))) (sym e)
        (leaves_behind k o (xs n) (run 0) (run n) (run (suc n)) before
        (event_leaves k o (xs n) (run n) (run (suc n)) event (f.place n (omega arith))))
    | inr z ↦
        leaves_before k o (xs j) (run 0) (run n) (run (suc n)) (fold_at j n most run at xs f (omega arith) (omega arith) is d b)
        (event_beside (at n) (xs n) (run n) (run (suc n)) (f.event n (omega arith)) (d n (λ w. z (sym w))) (b n (λ w. z (sym w)))
        (f.there n (omega arith)) (f.none n (omega arith)) (f.shown n (omega arith)))
  ]

  -- an event at an object, by whether that is this one
  pub event_where : (p : Object) (ys zs : List Change) (m x : Machine) → Event m x p ys → IsWhere p o ys zs → IsThere m o →
      brought k ys ≡ 0 → ShownOf s k m → k < length m.instances → Leaves k o zs m x
  event_where p ys zs m x e places there none shown place = elim (cases_Bool (is_same p o)) [
    | inl here ↦
        let event = subst (λ q. Event m x q ys) (same_object p o here) e in
        subst (λ vs. Leaves k o vs m x) (places.here here) (event_leaves k o ys m x event place)
    | inr d ↦ subst (λ vs. Leaves k o vs m x) (sym (places.beside d))
        (leaves_none k o m x (event_beside p ys m x e d (other_way o p d) there none shown))
  ]
