-- A run of rounds ends for its cause alone.
-- for: rounds_end_for_their_cause
use Rattle.std.specs.Prelude.{◌≡◌, ◌↔◌, refl, ◌+◌, Ok, Err, List, [], ◌∷◌, ◌++◌, map}
use Rattle.std.proofs.Common.{◌∙◌, sym, ap, subst}
use Rattle.bench_run.proofs.RunLaws.{made_all-append, one-made}
use Rattle.bench_run.specs.Endings.{EndsAt, IsFull, IsOver}
use Rattle.bench_run.specs.Run.{Event, Run, a_call, a_cycle, an_end, first_run, made, made_all}
use Rattle.bench_run.specs.declared.bench.RunFault.TheVariants.{CyclesOver, HistoryFull}
use Rattle.machine_drives.specs.Drives.{drives_at_opening}
use Rattle.motion_history.specs.Setup.{Setup}
use Rattle.st_rounds.proofs.Kept.{KeptByScans, rounds-keeps}
use Rattle.st_rounds.specs.Cell.{Cell, task_at_opening}
use Rattle.st_rounds.specs.Endings.{EndsForItsCause}
use Rattle.st_rounds.specs.Rounds.{run_of}

-- events lead from one run to another
pub record IsMade (s : Setup) (first r : Run) : Type 0 where
  pub events : List Event
  pub is : r ≡ made_all s events first

one-more : (s : Setup) (first r : Run) (e : Event) → IsMade s first r →
    IsMade s first (made s e r)
one-more s first r e h = record {
  events = h.events ++ e ∷ [];
  is = one-made s e r ∙ ap (made_all s (e ∷ [])) h.is
      ∙ sym (made_all-append s h.events (e ∷ []) first);
}

none-made : (s : Setup) (first : Run) → IsMade s first first
unfolding made_all
none-made s first = record { events = []; is = refl }

rounds-are-made : (c : Cell) →
    IsMade c.setup (first_run (drives_at_opening c.setup.axes c.drives)) (run_of c)
unfolding run_of
rounds-are-made c =
    let first = first_run (drives_at_opening c.setup.axes c.drives) in
    let kept : KeptByScans c.setup (IsMade c.setup first) = record {
      call = λ k i r h. one-more c.setup first r (a_call k i) h;
      end = λ n r h. one-more c.setup first r (an_end n) h;
    } in
    rounds-keeps (c.setup.cycles + 1) c (IsMade c.setup first) kept
    (λ r h. one-more c.setup first r a_cycle h) (map task_at_opening c.trees) first
    (none-made c.setup first)

-- why events end a run
pub record EndForTheirCause : Type 0 where
  pub over : (s : Setup) (events : List Event) (r : Run) → r.ending ≡ Ok tt →
      ((made_all s events r).ending ≡ Err CyclesOver) ↔ EndsAt s r events (IsOver s)
  pub full : (s : Setup) (events : List Event) (r : Run) → r.ending ≡ Ok tt →
      ((made_all s events r).ending ≡ Err HistoryFull) ↔ EndsAt s r events (IsFull s)

pub ends-for-cause : EndForTheirCause → (c : Cell) → EndsForItsCause c
ends-for-cause law c =
    let first = first_run (drives_at_opening c.setup.axes c.drives) in
    let made-is = rounds-are-made c in
    record {
      events = made-is.events;
      made = made-is.is;
      over = subst (λ (x : Run). (x.ending ≡ Err CyclesOver) ↔
          EndsAt c.setup first made-is.events (IsOver c.setup)) (sym made-is.is)
          (law.over c.setup made-is.events first refl);
      full = subst (λ (x : Run). (x.ending ≡ Err HistoryFull) ↔
          EndsAt c.setup first made-is.events (IsFull c.setup)) (sym made-is.is)
          (law.full c.setup made-is.events first refl);
    }
