-- An event that is made, and a run that goes on.
-- for: make_rounds, make_scan, tasks_make_their_scans
use Rattle.std.specs.Prelude.{◌≡◌, refl, ◌-◌, ◌<◌, ◌⊎◌, Bool, true, false, Result, Ok, Err, List, length}
use Rattle.std.proofs.Common.{◌∙◌, inl, inr, sym, ap, subst}
use Rattle.std.proofs.lemmas.Bool.{eqb-false}
use Rattle.bench_run.proofs.RunLaws.{made-by}
use Rattle.bench_run.specs.Run.{Event, Run, happened, is_cycle, made, room_for}
use Rattle.bench_run.specs.declared.bench.RunFault.{RunFault}
use Rattle.motion_history.specs.Entries.{Entry, cycles_of}
use Rattle.motion_history.specs.Setup.{Setup}
use Rattle.bench_run.proofs.EndingLaws.{ending-happened, left, room_by}

-- there was room for an event, and it was made
pub record GoesOn (s : Setup) (e : Event) (r : Run) : Type 0 where
  pub is : made s e r ≡ happened s e r
  pub room : length r.history < s.entries
  pub cycle : is_cycle e ≡ true → cycles_of r.history < s.cycles

not-full : (c over full : Bool) → room_by c over full ≡ Ok tt → full ≡ false
not-full true true full h = absurd (cc)
not-full true false true h = absurd (cc)
not-full true false false h = refl
not-full false over true h = absurd (cc)
not-full false over false h = refl

not-over : (over full : Bool) → room_by true over full ≡ Ok tt → over ≡ false
not-over true full h = absurd (cc)
not-over false full h = refl

has-room : (s : Setup) (h : List Entry) (c : Bool) → room_for s h c ≡ Ok tt → length h < s.entries
unfolding room_for
has-room s h c e =
    left s.entries (length h) (eqb-false (s.entries - length h) 0 (not-full c _ _ e))

has-cycle : (s : Setup) (h : List Entry) → room_for s h true ≡ Ok tt → cycles_of h < s.cycles
unfolding room_for
has-cycle s h e =
    left s.cycles (cycles_of h) (eqb-false (s.cycles - cycles_of h) 0 (not-over _ _ e))

goes-by : (s : Setup) (e : Event) (r : Run) (w : Result (Unit {0}) RunFault) → r.ending ≡ Ok tt →
    w ≡ room_for s r.history (is_cycle e) → (made s e r).ending ≡ Ok tt → GoesOn s e r
goes-by s e r (Ok u) o h k = record {
  is = sym (made-by s e r (Ok u) o h);
  room = has-room s r.history (is_cycle e) (sym h);
  cycle = λ c. has-cycle s r.history (subst (λ b. room_for s r.history b ≡ Ok tt) c (sym h));
}
goes-by s e r (Err f) o h k =
    let bad : Err f ≡ Ok tt = ap (λ (x : Run). x.ending) (made-by s e r (Err f) o h) ∙ k in
    absurd (cc)

-- an event after which the run goes on was made
pub goes : (s : Setup) (e : Event) (r : Run) → r.ending ≡ Ok tt → (made s e r).ending ≡ Ok tt →
    GoesOn s e r
goes s e r o k = goes-by s e r (room_for s r.history (is_cycle e)) o refl k

-- ---- an event that ends the run

ends-by : (s : Setup) (e : Event) (r : Run) (f : RunFault) (w : Result (Unit {0}) RunFault) →
    r.ending ≡ Ok tt → w ≡ room_for s r.history (is_cycle e) → (made s e r).ending ≡ Err f →
    (made s e r).history ≡ r.history
ends-by s e r f (Ok u) o h k =
    let bad : Ok tt ≡ Err f = sym o ∙ sym (ending-happened s e r)
    ∙ ap (λ (x : Run). x.ending) (made-by s e r (Ok u) o h) ∙ k in
    absurd (cc)
ends-by s e r f (Err g) o h k = sym (ap (λ (x : Run). x.history) (made-by s e r (Err g) o h))

-- an event that ends the run adds nothing
pub ends : (s : Setup) (e : Event) (r : Run) (f : RunFault) → r.ending ≡ Ok tt →
    (made s e r).ending ≡ Err f → (made s e r).history ≡ r.history
ends s e r f o k = ends-by s e r f (room_for s r.history (is_cycle e)) o refl k

-- a run goes on, or has ended
pub goes-or-ends : (w : Result (Unit {0}) RunFault) → (w ≡ Ok tt) ⊎ ((f : RunFault) × (w ≡ Err f))
goes-or-ends (Ok u) = inl refl
goes-or-ends (Err f) = inr (f, refl)
