-- What a task makes over all rounds, beside the others.
-- for: tasks_make_their_scans
use Rattle.std.specs.Prelude.{◌≡◌, refl, ℕ, zero, suc, ◌+◌, ◌<◌, Bool, true, false, if◌then◌else◌, Some, List, [], ◌∷◌, map, slice_get}
use Rattle.std.proofs.Common.{inl, inr, sym, ap, subst, arith}
use Rattle.bench_run.specs.Run.{Run, a_call, a_cycle, an_end, cycled, first_run, made}
use Rattle.machine_drives.specs.Drives.{drives_at_opening}
use Rattle.motion_history.specs.Entries.{end_of}
use Rattle.st_exec.specs.Laws.{AsksInOrder, IsCallOf}
use Rattle.st_tree.specs.declared.program.Task.{Task}
use Rattle.st_rounds.proofs.Kept.{KeptByScan, turn-keeps-by}
use Rattle.st_rounds.proofs.OwnEntries.{call-other, end-other, own-other}
use Rattle.st_rounds.proofs.TaskScans.{IsUp, MissesNone, other-event, own-turn, whole-made}
use Rattle.st_rounds.specs.Cell.{Cell, TaskStand, task_at_opening}
use Rattle.st_rounds.specs.Ready.{AreReady, MakesCalls}
use Rattle.st_rounds.specs.Rounds.{Round, any_lives, continued, reply_behind, rounds, run_of, turn, turns}
use Rattle.st_rounds.specs.TaskScans.{IsMadeBy, own_entries}

-- ---- the turn of another task

pub cycle-up : (c : Cell) (m : ℕ) (t : Task) (r : Run) (d : TaskStand) → IsUp c m t r d →
    IsUp c m t (made c.setup a_cycle r) d
unfolding cycled
cycle-up c m t r d up =
    other-event c m t a_cycle r d (own-other c.setup m r.history _ refl) up

-- a call of another task, and its end, add no entry of this one
kept-up : (c : Cell) (n m : ℕ) (t : Task) (d : TaskStand) → (n ≡ m → ⊥) →
    KeptByScan c.setup n (IsCallOf c.setup n) (λ r. IsUp c m t r d)
kept-up c n m t d other = record {
  call = λ a r is up. other-event c m t (a_call a.instance a.inputs) r d
      (own-other c.setup m r.history _
      (call-other c.setup n m a (reply_behind c.setup r a) is other)) up;
  end = λ r up. other-event c m t (an_end n) r d
      (own-other c.setup m r.history (end_of n) (end-other c.setup n m other)) up;
}

other-turn : (c : Cell) (n m : ℕ) (u t : Task) (e d : TaskStand) (r : Run) → (n ≡ m → ⊥) →
    MakesCalls c.setup c.cycle_us n u → IsUp c m t r d → IsUp c m t (turn c n u e r).run d
other-turn c n m u t e d r other makes up =
    turn-keeps-by c n u (IsCallOf c.setup n) (λ x. IsUp c m t x d) makes (kept-up c n m t d other)
    e r up

-- ---- the turns of all

-- trees of tasks, the first that of this number, make calls of theirs
abbrev pub MakeCalls : Cell → ℕ → List Task → Type 0
MakeCalls c n [] = Unit {0}
MakeCalls c n (u ∷ us) = MakesCalls c.setup c.cycle_us n u × MakeCalls c (suc n) us

-- after the task's own turn come those of others
others-turn : (c : Cell) (n m : ℕ) (t : Task) (us : List Task) (es : List TaskStand)
    (d : TaskStand) (r : Run) → m < n → MakeCalls c n us → IsUp c m t r d →
    IsUp c m t (turns c n us es r).run d
unfolding turns
others-turn c n m t (u ∷ us) (e ∷ es) d r l makes up =
    others-turn c (suc n) m t us es d (turn c n u e r).run (omega (arith, l)) makes.1
    (other-turn c n m u t e d r (λ same. omega (arith, l, same)) makes.0 up)
others-turn c n m t [] es d r l makes up = up
others-turn c n m t (u ∷ us) [] d r l makes up = up

-- where the task stands after the turns of all
pub record HasTurn (c : Cell) (m : ℕ) (t : Task) (i : ℕ) (x : Round) : Type 0 where
  pub stand : TaskStand
  pub there : slice_get x.stands i ≡ Some stand
  pub up : IsUp c m t x.run stand

-- what the scans of a tree keep to
pub record KeepsOrder (us : ℕ) (t : Task) : Type 0 where
  pub order : AsksInOrder us t.body.items
  pub all : MissesNone us t

pub all-turn : (c : Cell) (n m i : ℕ) (t : Task) (us : List Task) (es : List TaskStand)
    (d : TaskStand) (r : Run) → m ≡ n + i → slice_get us i ≡ Some t → slice_get es i ≡ Some d →
    KeepsOrder c.cycle_us t → MakeCalls c n us → IsUp c m t r d →
    HasTurn c m t i (turns c n us es r)
unfolding turns
all-turn c n m i t [] es d r at there stands keeps makes up = absurd (cc)
all-turn c n m i t (u ∷ us) [] d r at there stands keeps makes up = absurd (cc)
all-turn c n m zero t (u ∷ us) (e ∷ es) d r at there stands keeps makes up =
    let tree : u ≡ t = cc in
    let stand : e ≡ d = cc in
    let here : n ≡ m = omega (arith, at) in
    let first : IsUp c n u (turn c n u e r).run (turn c n u e r).stand =
    own-turn c n u e r (subst (λ v. AsksInOrder c.cycle_us v.body.items) (sym tree) keeps.order)
    (subst (MissesNone c.cycle_us) (sym tree) keeps.all) makes.0
    (subst (λ k. IsUp c k u r e) (sym here) (subst (λ v. IsUp c m v r e) (sym tree)
    (subst (IsUp c m t r) (sym stand) up))) in
    record {
      stand = (turn c n u e r).stand;
      there = refl;
      up = others-turn c (suc n) m t us es (turn c n u e r).stand (turn c n u e r).run
          (omega (arith, at)) makes.1
          (subst (λ k. IsUp c k t (turn c n u e r).run (turn c n u e r).stand) here
          (subst (λ v. IsUp c n v (turn c n u e r).run (turn c n u e r).stand) tree first));
    }
all-turn c n m (suc i) t (u ∷ us) (e ∷ es) d r at there stands keeps makes up =
    let rest = all-turn c (suc n) m i t us es d (turn c n u e r).run (omega (arith, at)) there stands
    keeps makes.1 (other-turn c n m u t e d r (λ same. omega (arith, at, same)) makes.0 up) in
    record { stand = rest.stand; there = rest.there; up = rest.up }

-- ---- all rounds

up-made : (c : Cell) (m : ℕ) (t : Task) (r : Run) (d : TaskStand) → IsUp c m t r d →
    IsMadeBy c m t (own_entries c.setup m r.history)
up-made c m t r d (inl (ok, w)) = whole-made c m t r d w
up-made c m t r d (inr h) = h.made

-- what rounds make, from where the task stands
abbrev RoundsMake : ℕ → Cell → ℕ → Task → Type 0
RoundsMake more c m t = (ds : List TaskStand) (d : TaskStand) (r : Run) → slice_get ds m ≡ Some d →
    IsUp c m t r d → IsMadeBy c m t (own_entries c.setup m (rounds more c ds r).history)

continued-make : (more : ℕ) (c : Cell) (m : ℕ) (t : Task) (x : Round) → RoundsMake more c m t →
    HasTurn c m t m x →
    IsMadeBy c m t (own_entries c.setup m (continued c (rounds more c) x).history)
continued-make more c m t x on h = by (any_lives x.stands)
  where
    by : (b : Bool) → IsMadeBy c m t (own_entries c.setup m
        (if b then rounds more c x.stands (made c.setup a_cycle x.run) else x.run).history)
    by true =
        on x.stands h.stand (made c.setup a_cycle x.run) h.there (cycle-up c m t x.run h.stand h.up)
    by false = up-made c m t x.run h.stand h.up

rounds-make : (more : ℕ) (c : Cell) (m : ℕ) (t : Task) → slice_get c.trees m ≡ Some t →
    KeepsOrder c.cycle_us t → MakeCalls c 0 c.trees → RoundsMake more c m t
unfolding rounds
rounds-make zero c m t there keeps makes ds d r at up = up-made c m t r d up
rounds-make (suc more) c m t there keeps makes ds d r at up =
    continued-make more c m t (turns c 0 c.trees ds r) (rounds-make more c m t there keeps makes)
    (all-turn c 0 m m t c.trees ds d r (omega arith) there at keeps makes up)

-- ---- the run

calls-from : (c : Cell) (n : ℕ) (us : List Task) →
    ((i : ℕ) (u : Task) → slice_get us i ≡ Some u → MakesCalls c.setup c.cycle_us (n + i) u) →
    MakeCalls c n us
calls-from c n [] each = tt
calls-from c n (u ∷ us) each =
    let here : n + 0 ≡ n = omega arith in (
      subst (λ k. MakesCalls c.setup c.cycle_us k u) here (each 0 u refl),
      calls-from c (suc n) us (λ i v e. let on : n + suc i ≡ suc n + i = omega arith in
          subst (λ k. MakesCalls c.setup c.cycle_us k v) on (each (suc i) v e)),
    )

pub opened-at : (ts : List Task) (m : ℕ) (t : Task) → slice_get ts m ≡ Some t →
    slice_get (map task_at_opening ts) m ≡ Some (task_at_opening t)
opened-at [] m t e = absurd (cc)
opened-at (u ∷ ts) zero t e = ap (λ v. Some (task_at_opening v)) (let same : u ≡ t = cc in same)
opened-at (u ∷ ts) (suc m) t e = opened-at ts m t e

pub all-calls : (c : Cell) → AreReady c.setup c.cycle_us c.trees → MakeCalls c 0 c.trees
all-calls c ready =
    calls-from c 0 c.trees (λ i u e. let same : i ≡ 0 + i = omega arith in
    subst (λ k. MakesCalls c.setup c.cycle_us k u) same (ready.calls i u e))

-- the entries of each task are those of its scans
pub tasks-make : ((us : ℕ) (t : Task) → KeepsOrder us t) → (c : Cell) →
    AreReady c.setup c.cycle_us c.trees → (m : ℕ) (t : Task) → slice_get c.trees m ≡ Some t →
    IsMadeBy c m t (own_entries c.setup m (run_of c).history)
unfolding run_of
tasks-make keeps c ready m t there =
    rounds-make (c.setup.cycles + 1) c m t there (keeps c.cycle_us t)
    (all-calls c ready)
    (map task_at_opening c.trees) (task_at_opening t)
    (first_run (drives_at_opening c.setup.axes c.drives)) (opened-at c.trees m t there)
    (inl (refl, record { scans = []; are = (refl, refl) }))
