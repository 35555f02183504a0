-- At most eight commands wait in each list after every entry of a past.
-- for: at_most_eight_wait
use Rattle.std.specs.Prelude.{◌≡◌, refl, ℕ, zero, suc, ◌+◌, ◌-◌, ◌≤◌, List, [], ◌∷◌, length, replicate}
use Rattle.std.proofs.Common.{arith, ap, sym, subst, inl, inr}
use Rattle.std.proofs.lemmas.Bool.{cases_Bool, cases_lt}
use Rattle.std.proofs.lemmas.List.{length-map}
use Rattle.command_core.specs.Brought.{BringNone}
use Rattle.command_core.specs.Changes.{Change}
use Rattle.command_core.specs.CommandState.{CommandState}
use Rattle.command_core.specs.Laws.{WaitAtMost}
use Rattle.command_pool.specs.Waiting.{detached, queue_of}
use Rattle.command_pool.specs.declared.wanted.Wanted.{Wanted}
use Rattle.motion_history.specs.Entries.{Entry}
use Rattle.motion_history.specs.Setup.{Setup, IsSetup}
use Rattle.motion_kernel.specs.Histories.{IsPast, replay}
use Rattle.motion_kernel.specs.Machine.{Machine, list_of, machine_at_opening}
use Rattle.motion_kernel.specs.calls.Calls.{after_reply, with_execute}
use Rattle.motion_kernel.specs.cycles.Showing.{with_found}
use Rattle.motion_kernel.specs.kept.Machine.{AreWhole, IsSized}
use Rattle.motion_kernel.specs.owners.Objects.{a_group, an_axis, IsThere, Object, is_same}
use Rattle.motion_laws.proofs.Histories.{past_kept}
use Rattle.motion_kernel.proofs.owners.commands.Events.{same_object}
use Rattle.motion_kernel.proofs.walk.Events.{executed_alike, found_alike, freed_at, freed_there, replied_alike}
use Rattle.motion_laws.proofs.walk.Histories.{by_history}
use Rattle.motion_kernel.proofs.walk.Keeps.{Alike, Anyone, Asks, CoresKept, Event, Keeps, WalkLaws, command_state_at, freed}

-- at most eight commands wait for each axis and each group
abbrev FewWait : Machine → Type 0
FewWait m = (o : Object) → IsThere m o → length (command_state_at m o).waiting ≤ 8

alike_few : (m x : Machine) → Alike m x → FewWait m → FewWait x
alike_few m x a h p l =
    let was = a.as_many p l in
    subst (λ (c : CommandState). length c.waiting ≤ 8) (sym (a.same p)) (h p was)

event_few : (m x : Machine) (o : Object) (xs : List Change) → Event m x o xs →
    (length (command_state_at m o).waiting ≤ 8 → length (command_state_at x o).waiting ≤ 8) → FewWait m → FewWait x
event_few m x o xs e here h p l = elim (cases_Bool (is_same o p)) [
  | inl same ↦ subst (λ q. length (command_state_at x q).waiting ≤ 8) (same_object o p same) (here (h o e.there))
  | inr other ↦
      let was = e.as_many p l in
      subst (λ (c : CommandState). length c.waiting ≤ 8) (sym (e.beside p was other)) (h p was)
]

-- changes that bring none add none
none_few : WaitAtMost → (m x : Machine) (o : Object) (xs : List Change) → Event m x o xs → BringNone xs → FewWait m → FewWait x
none_few law m x o xs e none h =
    let same : length (command_state_at x o).waiting ≡ _ = ap (λ (c : CommandState). length c.waiting) e.here in
    let less = law.before xs (command_state_at m o) none in
    event_few m x o xs e (λ few. omega arith) h

-- an instance that asks
asked_few : WalkLaws → CoresKept → WaitAtMost → (s : Setup) (k : ℕ) (m z : Machine) → Asks s k m z → FewWait m → FewWait z
asked_few laws cores law s k m z a h =
    let free : FewWait (freed k a.called m) = λ p l.
    let was = freed_there k a.called m p l in
    let waits = ap (λ (c : CommandState). length c.waiting) (freed_at laws k a.called m p was) in
    let same = length-map (command_state_at m p).waiting (detached k) in
    let before = h p was in
    omega arith in
    let same : length (command_state_at a.asked a.object).waiting ≡ _ = ap (λ (c : CommandState). length c.waiting) a.event.here in
    let eight = law.eight a.changes (command_state_at (freed k a.called m) a.object) (a.fits cores) in
    alike_few a.asked z a.alike (event_few (freed k a.called m) a.asked a.object a.changes a.event
    (λ few. let most = eight few in omega arith) free)

few_kept : WalkLaws → CoresKept → WaitAtMost → (s : Setup) → Keeps s Anyone FewWait FewWait
few_kept laws cores law s = record {
  executed = λ k b i m may at quiet h. alike_few m (with_execute k i m) (executed_alike k i m) h;
  powered = λ m x o xs e none call h. none_few law m x o xs e none h;
  asked = λ k m z may a h. asked_few laws cores law s k m z a h;
  replied = λ k m may h. alike_few m (after_reply k m) (replied_alike k m) h;
  begins = λ m sized h. h;
  cycled = λ m x o xs e none h. none_few law m x o xs e none h;
  found = λ m sized h. alike_few m (with_found s m) (found_alike s m) h;
}

-- at opening none waits
none_waits : (n list : ℕ) → length (queue_of (replicate n []) list) ≤ 8
none_waits zero list = omega arith
none_waits (suc n) zero = omega arith
none_waits (suc n) (suc list) = none_waits n list

opened_few : (s : Setup) → FewWait (machine_at_opening s)
opened_few s (an_axis n) l = none_waits (length s.axes + length s.groups) n
opened_few s (a_group j) l = none_waits (length s.axes + length s.groups) (list_of (machine_at_opening s) j)

-- each list is that of an axis or a group
none_past : (queues : List (List Wanted)) (list : ℕ) → length queues ≤ list → queue_of queues list ≡ []
none_past [] list l = refl
none_past (q ∷ qs) zero l = absurd (omega arith)
none_past (q ∷ qs) (suc list) l = none_past qs list (omega arith)

all_short : (s : Setup) (m : Machine) → IsSized s m → FewWait m → (list : ℕ) → length (queue_of m.queues list) ≤ 8
all_short s m sized h list =
    let a = sized.axes in
    let g = sized.groups in
    let q = sized.queues in
    elim (cases_lt list (length m.axes)) [
      | inl axis ↦ h (an_axis list) axis
      | inr more ↦ elim (cases_lt list (length m.queues)) [
        | inl group ↦
            let j = list - length m.axes in
            let is : length m.axes + j ≡ list = omega arith in
            subst (λ n. length (queue_of m.queues n) ≤ 8) is (h (a_group j) (omega arith))
        | inr behind ↦ let none = ap length (none_past m.queues list (omega arith)) in omega arith
      ]
    ]

pub past_short : WalkLaws → CoresKept → WaitAtMost → (s : Setup) (es : List Entry) → IsSetup s → AreWhole s → IsPast s es →
    (list : ℕ) → length (queue_of (replay s (machine_at_opening s) es).queues list) ≤ 8
past_short laws cores law s es setup whole past =
    all_short s (replay s (machine_at_opening s) es) (past_kept laws.machines s es setup whole past).sized
    (by_history laws s Anyone FewWait FewWait (few_kept laws cores law s) (λ k. tt) (opened_few s) es setup whole past)
