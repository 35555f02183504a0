-- What each event of a run keeps is kept by its scans, turns and rounds.
-- for: rounds_end_for_their_cause
use Rattle.std.specs.Prelude.{◌≡◌, refl, ℕ, ℤ, zero, suc, ◌+◌, Bool, true, false, if◌then◌else◌, Option, Some, None, Err, List, [], ◌∷◌, length, slice_get}
use Rattle.std.specs.List.{AllByRecursion}
use Rattle.std.proofs.Common.{◌∙◌, ap, subst}
use Rattle.bench_run.proofs.RunLaws.{made-ended}
use Rattle.bench_run.specs.Run.{Event, Run, a_call, a_cycle, an_end, made}
use Rattle.bench_run.specs.declared.bench.RunFault.{RunFault}
use Rattle.plc_types.specs.declared.inputs.Inputs.{Inputs}
use Rattle.plc_types.specs.declared.outputs.Outputs.{Outputs}
use Rattle.motion_history.specs.Setup.{Setup}
use Rattle.st_exec.specs.Laws.{asks_of}
use Rattle.st_exec.specs.Scan.{Asked, Course, Over, Waits, Missing, scan_of}
use Rattle.st_tree.specs.declared.program.Task.{Task}
use Rattle.st_rounds.specs.Cell.{Cell, TaskStand}
use Rattle.st_rounds.specs.Rounds.{Round, Turn, any_lives, called, continued, is_last, made_by, rounds, scan_on, turn, turns, with_call}

-- what the scans of a task ask is so, whatever its variables and replies
abbrev pub AreAsked : Cell → Task → (Asked → Type 0) → Type 0
AreAsked c t Q = (vars : List ℤ) (last got : List Outputs) →
    AllByRecursion Q (asks_of (scan_of c.cycle_us t.body.items vars last got))

-- the events of a scan of the task of this number keep this, its calls being so
pub record KeptByScan (s : Setup) (n : ℕ) (Q : Asked → Type 0) (P : Run → Type 0) : Type 0 where
  pub call : (a : Asked) (r : Run) → Q a → P r → P (with_call s a r)
  pub end : (r : Run) → P r → P (made s (an_end n) r)

-- the events of any scan keep it
pub record KeptByScans (s : Setup) (P : Run → Type 0) : Type 0 where
  pub call : (k : ℕ) (i : Inputs) (r : Run) → P r → P (made s (a_call k i) r)
  pub end : (n : ℕ) (r : Run) → P r → P (made s (an_end n) r)

chosen-keeps : (P : Run → Type 0) (b : Bool) (x y : Run) → P x → P y → P (if b then x else y)
chosen-keeps P true x y h k = h
chosen-keeps P false x y h k = k

-- one of some calls that are so
asked-at : (Q : Asked → Type 0) (calls : List Asked) (i : ℕ) (a : Asked) → AllByRecursion Q calls →
    slice_get calls i ≡ Some a → Q a
asked-at Q [] i a h e = absurd (cc)
asked-at Q (b ∷ calls) zero a h e = subst Q (let same : b ≡ a = cc in same) h.0
asked-at Q (b ∷ calls) (suc i) a h e = asked-at Q calls i a h.1 e

called-keeps : (c : Cell) (n : ℕ) (Q : Asked → Type 0) (P : Run → Type 0) →
    KeptByScan c.setup n Q P → (on : List Outputs → Run → Turn) →
    ((got : List Outputs) (r : Run) → P r → P (on got r).run) →
    (d : TaskStand) (got : List Outputs) (r : Run) (o : Option Asked) →
    ((a : Asked) → o ≡ Some a → Q a) → P r → P (called c on d got r o).run
called-keeps c n Q P kept on go d got r None q h = h
called-keeps c n Q P kept on go d got r (Some a) q h = go _ _ (kept.call a r (q a refl) h)

made_by-keeps : (c : Cell) (n : ℕ) (t : Task) (Q : Asked → Type 0) (P : Run → Type 0) →
    KeptByScan c.setup n Q P → (on : List Outputs → Run → Turn) →
    ((got : List Outputs) (r : Run) → P r → P (on got r).run) →
    (d : TaskStand) (got : List Outputs) (r : Run) (course : Course) →
    AllByRecursion Q (asks_of course) → P r → P (made_by c n t on d got r course).run
made_by-keeps c n t Q P kept on go d got r (Over left) q h =
    chosen-keeps P (is_last t left) (made c.setup (an_end n) r) r (kept.end r h) h
made_by-keeps c n t Q P kept on go d got r (Waits calls) q h =
    called-keeps c n Q P kept on go d got r (slice_get calls (length got))
    (λ a e. asked-at Q calls (length got) a q e) h
made_by-keeps c n t Q P kept on go d got r Missing q h = h

scan-keeps-by : (steps : ℕ) (c : Cell) (n : ℕ) (t : Task) (Q : Asked → Type 0) (P : Run → Type 0) →
    AreAsked c t Q → KeptByScan c.setup n Q P → (d : TaskStand) (got : List Outputs) (r : Run) →
    P r → P (scan_on steps c n t d got r).run
unfolding scan_on
scan-keeps-by zero c n t Q P asks kept d got r h = h
scan-keeps-by (suc steps) c n t Q P asks kept d got r h =
    made_by-keeps c n t Q P kept (scan_on steps c n t d)
    (scan-keeps-by steps c n t Q P asks kept d) d got r
    (scan_of c.cycle_us t.body.items d.vars d.last got) (asks d.vars d.last got) h

all-asked : (calls : List Asked) → AllByRecursion (λ (a : Asked). Unit {0}) calls
all-asked [] = tt
all-asked (a ∷ calls) = (tt, all-asked calls)

by-scan : (s : Setup) (n : ℕ) (P : Run → Type 0) → KeptByScans s P →
    KeptByScan s n (λ a. Unit {0}) P
by-scan s n P kept = record {
  call = λ a r q h. kept.call a.instance a.inputs r h;
  end = λ r h. kept.end n r h;
}

pub scan-keeps : (steps : ℕ) (c : Cell) (P : Run → Type 0) → KeptByScans c.setup P → (n : ℕ)
    (t : Task) (d : TaskStand) (got : List Outputs) (r : Run) → P r →
    P (scan_on steps c n t d got r).run
scan-keeps steps c P kept n t d got r h =
    scan-keeps-by steps c n t (λ a. Unit {0}) P (λ vars last some. all-asked _)
    (by-scan c.setup n P kept) d got r h

turned-keeps : (P : Run → Type 0) (b : Bool) (x y : Turn) → P x.run → P y.run →
    P (if b then x else y).run
turned-keeps P true x y h k = h
turned-keeps P false x y h k = k

pub turn-keeps-by : (c : Cell) (n : ℕ) (t : Task) (Q : Asked → Type 0) (P : Run → Type 0) →
    AreAsked c t Q → KeptByScan c.setup n Q P → (d : TaskStand) (r : Run) → P r →
    P (turn c n t d r).run
unfolding turn
turn-keeps-by c n t Q P asks kept d r h =
    turned-keeps P d.lives _ _
    (scan-keeps-by (c.setup.entries + 1) c n t Q P asks kept d [] r h) h

pub turn-keeps : (c : Cell) (P : Run → Type 0) → KeptByScans c.setup P → (n : ℕ) (t : Task)
    (d : TaskStand) (r : Run) → P r → P (turn c n t d r).run
turn-keeps c P kept n t d r h =
    turn-keeps-by c n t (λ a. Unit {0}) P (λ vars last some. all-asked _)
    (by-scan c.setup n P kept) d r h

pub turns-keeps : (c : Cell) (P : Run → Type 0) → KeptByScans c.setup P → (n : ℕ)
    (ts : List Task) (ds : List TaskStand) (r : Run) → P r → P (turns c n ts ds r).run
unfolding turns
turns-keeps c P kept n (t ∷ ts) (d ∷ ds) r h =
    turns-keeps c P kept (suc n) ts ds (turn c n t d r).run (turn-keeps c P kept n t d r h)
turns-keeps c P kept n [] ds r h = h
turns-keeps c P kept n (t ∷ ts) [] r h = h

continued-keeps : (c : Cell) (P : Run → Type 0) → ((r : Run) → P r → P (made c.setup a_cycle r)) →
    (on : List TaskStand → Run → Run) → ((ds : List TaskStand) (r : Run) → P r → P (on ds r)) →
    (x : Round) → P x.run → P (continued c on x)
continued-keeps c P cycle on go x h =
    chosen-keeps P (any_lives x.stands) (on x.stands (made c.setup a_cycle x.run)) x.run
    (go x.stands (made c.setup a_cycle x.run) (cycle x.run h)) h

pub rounds-keeps : (more : ℕ) (c : Cell) (P : Run → Type 0) → KeptByScans c.setup P →
    ((r : Run) → P r → P (made c.setup a_cycle r)) → (ds : List TaskStand) (r : Run) → P r →
    P (rounds more c ds r)
unfolding rounds
rounds-keeps zero c P kept cycle ds r h = h
rounds-keeps (suc more) c P kept cycle ds r h =
    continued-keeps c P cycle (rounds more c) (rounds-keeps more c P kept cycle)
    (turns c 0 c.trees ds r) (turns-keeps c P kept 0 c.trees ds r h)

-- ---- a run that has ended

-- each event leaves a run that has ended as it is
pub event-stays : (s : Setup) (e : Event) (r x : Run) (f : RunFault) → r.ending ≡ Err f → x ≡ r →
    made s e x ≡ r
event-stays s e r x f ended is = ap (made s e) is ∙ made-ended s e r f ended

scans-stay : (s : Setup) (r : Run) (f : RunFault) → r.ending ≡ Err f → KeptByScans s (λ x. x ≡ r)
scans-stay s r f ended = record {
  call = λ k i x is. event-stays s (a_call k i) r x f ended is;
  end = λ n x is. event-stays s (an_end n) r x f ended is;
}

pub scan-stays : (steps : ℕ) (c : Cell) (n : ℕ) (t : Task) (d : TaskStand) (got : List Outputs)
    (r : Run) (f : RunFault) → r.ending ≡ Err f → (scan_on steps c n t d got r).run ≡ r
scan-stays steps c n t d got r f ended =
    scan-keeps steps c (λ x. x ≡ r) (scans-stay c.setup r f ended) n t d got r refl

pub turns-stay : (c : Cell) (n : ℕ) (ts : List Task) (ds : List TaskStand) (r : Run)
    (f : RunFault) → r.ending ≡ Err f → (turns c n ts ds r).run ≡ r
turns-stay c n ts ds r f ended =
    turns-keeps c (λ x. x ≡ r) (scans-stay c.setup r f ended) n ts ds r refl

pub rounds-stay : (more : ℕ) (c : Cell) (ds : List TaskStand) (r : Run) (f : RunFault) →
    r.ending ≡ Err f → rounds more c ds r ≡ r
rounds-stay more c ds r f ended =
    rounds-keeps more c (λ x. x ≡ r) (scans-stay c.setup r f ended)
    (λ x is. event-stays c.setup a_cycle r x f ended is) ds r refl

pub turn-stays : (c : Cell) (n : ℕ) (t : Task) (d : TaskStand) (r : Run) (f : RunFault) →
    r.ending ≡ Err f → (turn c n t d r).run ≡ r
turn-stays c n t d r f ended =
    turn-keeps c (λ x. x ≡ r) (scans-stay c.setup r f ended) n t d r refl
