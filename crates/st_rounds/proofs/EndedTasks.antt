-- Where a run ends well, each task has made its end.
-- for: tasks_make_their_scans
use Rattle.std.specs.Prelude.{◌≡◌, refl, ℕ, zero, suc, ◌+◌, ◌-◌, ◌<◌, Bool, true, false, if◌then◌else◌, Some, Ok, Err, List, [], ◌∷◌, map, slice_get}
use Rattle.std.proofs.Common.{◌∙◌, inl, inr, sym, ap, arith}
use Rattle.std.proofs.lemmas.Bool.{or_parts}
use Rattle.bench_run.proofs.RunLaws.{made-ended}
use Rattle.bench_run.specs.Run.{Run, a_cycle, first_run, made}
use Rattle.machine_drives.specs.Drives.{drives_at_opening}
use Rattle.motion_history.specs.Entries.{CyclesAddUp, cycles_of}
use Rattle.st_tree.specs.declared.program.Task.{Task}
use Rattle.st_rounds.proofs.AllScans.{HasTurn, KeepsOrder, MakeCalls, all-calls, all-turn, cycle-up, opened-at}
use Rattle.st_rounds.proofs.Kept.{rounds-stay}
use Rattle.st_rounds.proofs.MadeLaws.{goes, goes-or-ends}
use Rattle.st_rounds.proofs.RoundLaws.{cycled-adds, turns-add-none}
use Rattle.st_rounds.proofs.TaskScans.{IsUp, IsWhole, whole-made}
use Rattle.st_rounds.specs.Cell.{Cell, TaskStand, task_at_opening}
use Rattle.st_rounds.specs.Ready.{AreReady}
use Rattle.st_rounds.specs.Rounds.{Round, any_lives, continued, rounds, run_of, turns}
use Rattle.st_rounds.specs.TaskScans.{HasEnded, own_entries}

-- where no task lives this one doesn't
dead-at : (ds : List TaskStand) (m : ℕ) (d : TaskStand) → any_lives ds ≡ false →
    slice_get ds m ≡ Some d → d.lives ≡ false
dead-at [] m d none at = absurd (cc)
dead-at (e ∷ ds) zero d none at =
    let same : e ≡ d = cc in
    ap (λ (x : TaskStand). x.lives) (sym same) ∙ (or_parts e.lives (any_lives ds) none).0
dead-at (e ∷ ds) (suc m) d none at =
    dead-at ds m d (or_parts e.lives (any_lives ds) none).1 at

-- a task has ended after whole scans
record IsDead (c : Cell) (m : ℕ) (t : Task) (r : Run) : Type 0 where
  stand : TaskStand
  dead : stand.lives ≡ false
  whole : IsWhole c m t r stand

-- what rounds that end well lead to
abbrev RoundsEnd : ℕ → Cell → ℕ → Task → Type 0
RoundsEnd more c m t = (ds : List TaskStand) (d : TaskStand) (r : Run) → slice_get ds m ≡ Some d →
    IsUp c m t r d → c.setup.cycles - cycles_of r.history < more →
    (rounds more c ds r).ending ≡ Ok tt → IsDead c m t (rounds more c ds r)

-- a run that goes on after rounds went on before them
went-on : (more : ℕ) (c : Cell) (ds : List TaskStand) (r : Run) →
    (rounds more c ds r).ending ≡ Ok tt → r.ending ≡ Ok tt
went-on more c ds r ok = elim (goes-or-ends r.ending) [
  | inl on ↦ on
  | inr (f, ended) ↦
      let bad : Err f ≡ Ok tt =
      sym ended ∙ sym (ap (λ (x : Run). x.ending) (rounds-stay more c ds r f ended)) ∙ ok in
      absurd (cc)
]

-- and after a cycle
before-cycle : (c : Cell) (r : Run) → (made c.setup a_cycle r).ending ≡ Ok tt → r.ending ≡ Ok tt
before-cycle c r ok = elim (goes-or-ends r.ending) [
  | inl on ↦ on
  | inr (f, ended) ↦
      let bad : Err f ≡ Ok tt = sym ended
      ∙ sym (ap (λ (x : Run). x.ending) (made-ended c.setup a_cycle r f ended)) ∙ ok in
      absurd (cc)
]

fewer : CyclesAddUp → (c : Cell) (r : Run) (more : ℕ) → (made c.setup a_cycle r).ending ≡ Ok tt →
    c.setup.cycles - cycles_of r.history < suc more →
    c.setup.cycles - cycles_of (made c.setup a_cycle r).history < more
fewer add c r more on enough =
    let went = goes c.setup a_cycle r (before-cycle c r on) on in
    let room = went.cycle refl in
    let one = ap (λ (x : Run). cycles_of x.history) went.is ∙ cycled-adds add c.setup r in
    omega (arith, room, one, enough)

dead-by : (c : Cell) (m : ℕ) (t : Task) (r : Run) (d : TaskStand) → r.ending ≡ Ok tt →
    d.lives ≡ false → IsUp c m t r d → IsDead c m t r
dead-by c m t r d ok dead (inl (on, w)) = record { stand = d; dead = dead; whole = w }
dead-by c m t r d ok dead (inr h) =
    absurd (let bad : Err h.fault ≡ Ok tt = sym h.ended ∙ ok in cc)

continued-end : CyclesAddUp → (more : ℕ) (c : Cell) (m : ℕ) (t : Task) (x : Round) →
    RoundsEnd more c m t → HasTurn c m t m x →
    c.setup.cycles - cycles_of x.run.history < suc more →
    (continued c (rounds more c) x).ending ≡ Ok tt → IsDead c m t (continued c (rounds more c) x)
continued-end add more c m t x on h enough = by (any_lives x.stands) refl
  where
    next : Run
    next = made c.setup a_cycle x.run

    by : (b : Bool) → any_lives x.stands ≡ b →
        (if b then rounds more c x.stands next else x.run).ending ≡ Ok tt →
        IsDead c m t (if b then rounds more c x.stands next else x.run)
    by true lives ok =
        on x.stands h.stand next h.there (cycle-up c m t x.run h.stand h.up)
        (fewer add c x.run more (went-on more c x.stands next ok) enough) ok
    by false none ok = dead-by c m t x.run h.stand ok (dead-at x.stands m h.stand none h.there) h.up

rounds-end : CyclesAddUp → (more : ℕ) (c : Cell) (m : ℕ) (t : Task) →
    slice_get c.trees m ≡ Some t → KeepsOrder c.cycle_us t → MakeCalls c 0 c.trees →
    RoundsEnd more c m t
unfolding rounds
rounds-end add zero c m t there keeps makes ds d r at up enough ok = absurd (omega (arith, enough))
rounds-end add (suc more) c m t there keeps makes ds d r at up enough ok =
    let none = turns-add-none add c c.trees ds r in
    continued-end add more c m t (turns c 0 c.trees ds r)
    (rounds-end add more c m t there keeps makes)
    (all-turn c 0 m m t c.trees ds d r (omega arith) there at keeps makes up)
    (omega (arith, none, enough)) ok

ended-of : (c : Cell) (m : ℕ) (t : Task) (r : Run) → IsDead c m t r →
    HasEnded c m t (own_entries c.setup m r.history)
ended-of c m t r h =
    record { made = whole-made c m t r h.stand h.whole; ended = h.dead }

-- where the run ends well each task has ended
pub tasks-end : CyclesAddUp → ((us : ℕ) (t : Task) → KeepsOrder us t) → (c : Cell) →
    AreReady c.setup c.cycle_us c.trees → (m : ℕ) (t : Task) → slice_get c.trees m ≡ Some t →
    (run_of c).ending ≡ Ok tt → HasEnded c m t (own_entries c.setup m (run_of c).history)
unfolding run_of
tasks-end add keeps c ready m t there ok =
    ended-of c m t _
    (rounds-end add (c.setup.cycles + 1) c m t there (keeps c.cycle_us t) (all-calls c ready)
    (map task_at_opening c.trees) (task_at_opening t)
    (first_run (drives_at_opening c.setup.axes c.drives)) (opened-at c.trees m t there)
    (inl (refl, record { scans = []; are = (refl, refl) })) (omega arith) ok)
