-- The run of a bench, an event after another.
-- for: runs_end_for_their_cause, run
use Rattle.std.specs.Prelude.{◌≡◌, refl, ℕ, zero, suc, ◌+◌, ◌-◌, ◌<◌, false, All, IsSomeAnd, Result, Ok, Err, List, [], ◌∷◌, ◌++◌, length, drop, replicate, slice_get, slice_index_or}
use Rattle.std.specs.List.{flat_map}
use Rattle.std.proofs.Common.{◌∙◌, sym, ap, subst, arith}
use Rattle.std.proofs.lemmas.List.{drop_more}
use Rattle.bench_text.specs.BenchState.{IsLineOf}
use Rattle.bench_text.specs.declared.bench.BenchLine.{BenchLine}
use Rattle.drive_sim.specs.Sim.{DriveSim}
use Rattle.motion_history.specs.Setup.{Setup, IsSetup}
use Rattle.motion_history.specs.declared.config.BlockDef.{BlockDef}
use Rattle.motion_kernel.specs.KernelState.{KernelState}
use Rattle.bench_run.specs.Going.{IsGoing, run_at}
use Rattle.bench_run.specs.Run.{Event, Run, a_cycle, events_of, is_cycle, made, made_all, next_of, room_for, tried}
use Rattle.bench_run.specs.declared.bench.RunFault.{RunFault}

-- an event is made, or ends the run, by the room for it
pub made-by : (s : Setup) (e : Event) (r : Run) (w : Result (Unit {0}) RunFault) →
    r.ending ≡ Ok tt → w ≡ room_for s r.history (is_cycle e) → tried s e r w ≡ made s e r
unfolding made
made-by s e r w o h = ap (tried s e r) h ∙ sym (ap (next_of s e r) o)

-- events and then more
pub made_all-append : (s : Setup) (es more : List Event) (r : Run) →
    made_all s (es ++ more) r ≡ made_all s more (made_all s es r)
unfolding made_all
made_all-append s [] more r = refl
made_all-append s (e ∷ es) more r = made_all-append s es more (made s e r)

pub made-ended : (s : Setup) (e : Event) (r : Run) (f : RunFault) → r.ending ≡ Err f → made s e r ≡ r
unfolding made
made-ended s e r f h = ap (next_of s e r) h

-- a list of one event is that event
pub one-made : (s : Setup) (e : Event) (r : Run) → made s e r ≡ made_all s (e ∷ []) r
unfolding made_all
one-made s e r = refl

-- a run that ended stays
pub ended-stays : (s : Setup) (es : List Event) (r : Run) (f : RunFault) → r.ending ≡ Err f →
    made_all s es r ≡ r
unfolding made_all
ended-stays s [] r f h = refl
ended-stays s (e ∷ es) r f h = ap (made_all s es) (made-ended s e r f h) ∙ ended-stays s es r f h

-- what a loop of a run keeps: it goes on, and the events that are left lead to the whole
pub record IsUnderWay (s : Setup) (k : KernelState) (drives : List DriveSim) (left : List Event)
    (whole : Run) : Type 0 where
  pub config : k.config ≡ s
  pub going : IsGoing k drives
  pub so_far : made_all s left (run_at k drives (Ok tt)) ≡ whole

further : (s : Setup) (k : KernelState) (drives : List DriveSim) (now rest : List Event)
    (whole r : Run) →
    IsUnderWay s k drives (now ++ rest) whole →
    r ≡ made_all k.config now (run_at k drives (Ok tt)) → made_all s rest r ≡ whole
further s k drives now rest whole r is e =
    ap (made_all s rest) (e ∙ ap (λ x. made_all x now (run_at k drives (Ok tt))) is.config)
    ∙ sym (made_all-append s now rest (run_at k drives (Ok tt))) ∙ is.so_far

-- some events further it is still under way
pub goes-on : (s : Setup) (k k2 : KernelState) (drives drives2 : List DriveSim)
    (now rest : List Event) (whole : Run) →
    IsUnderWay s k drives (now ++ rest) whole → k2.config ≡ k.config →
    run_at k2 drives2 (Ok tt) ≡ made_all k.config now (run_at k drives (Ok tt)) →
    IsGoing k2 drives2 → IsUnderWay s k2 drives2 rest whole
goes-on s k k2 drives drives2 now rest whole is c e g = record {
  config = c ∙ is.config;
  going = g;
  so_far = further s k drives now rest whole (run_at k2 drives2 (Ok tt)) is e;
}

-- where these events end the run, this is the whole
pub stops : (s : Setup) (k k2 : KernelState) (drives drives2 : List DriveSim)
    (now rest : List Event) (whole : Run) (f : RunFault) →
    IsUnderWay s k drives (now ++ rest) whole →
    run_at k2 drives2 (Err f) ≡ made_all k.config now (run_at k drives (Ok tt)) →
    run_at k2 drives2 (Err f) ≡ whole
stops s k k2 drives drives2 now rest whole f is e =
    sym (ended-stays s rest (run_at k2 drives2 (Err f)) f refl) ∙
    further s k drives now rest whole (run_at k2 drives2 (Err f)) is e

-- the cycles that are left: one, and the others
pub cycles_left : (n i : ℕ) → i < n →
    replicate (n - i) a_cycle ≡ a_cycle ∷ replicate (n - (i + 1)) a_cycle
cycles_left n i l =
    let one : n - i ≡ suc (n - (i + 1)) = omega arith in ap (λ m. replicate m a_cycle) one

-- the lines that are left: those of one, and of the others
pub lines_left : (ls : List BenchLine) (i : ℕ) (d : BenchLine) → i < length ls →
    flat_map events_of (drop i ls) ≡
    events_of (slice_index_or ls i d) ++ flat_map events_of (drop (i + 1) ls)
lines_left ls i d l = ap (flat_map events_of) (drop_more ls i d l)

-- a cycle of those that are left
pub a-cycle-left : (s : Setup) (k : KernelState) (drives : List DriveSim) (n i : ℕ) (whole : Run) →
    i < n →
    IsUnderWay s k drives (replicate (n - i) a_cycle) whole →
    IsUnderWay s k drives ((a_cycle ∷ []) ++ replicate (n - (i + 1)) a_cycle) whole
a-cycle-left s k drives n i whole l is =
    let P : List Event → Type 0 = λ es. IsUnderWay s k drives es whole in subst P
    (cycles_left n i l) is

-- a line of those that are left
pub a-line-left : (s : Setup) (k : KernelState) (drives : List DriveSim) (ls : List BenchLine)
    (i : ℕ) (d : BenchLine) (whole : Run) → i < length ls →
    IsUnderWay s k drives (flat_map events_of (drop i ls)) whole →
    IsUnderWay s k drives
    (events_of (slice_index_or ls i d) ++ flat_map events_of (drop (i + 1) ls)) whole
a-line-left s k drives ls i d whole l is =
    let P : List Event → Type 0 = λ es. IsUnderWay s k drives es whole in subst P
    (lines_left ls i d l) is

-- the task of a block that is there
task-here : (bs : List BlockDef) (k : ℕ) (d : BlockDef) → k < length bs →
    IsSomeAnd (slice_get bs k) (λ b. b.task ≡ (slice_index_or bs k d).task)
task-here [] k d l = absurd (omega arith)
task-here (b ∷ bs) zero d l = refl
task-here (b ∷ bs) (suc k) d l = task-here bs k d (omega arith)

pub task-at : (bs cs : List BlockDef) (k : ℕ) (d : BlockDef) → cs ≡ bs → k < length bs →
    IsSomeAnd (slice_get bs k) (λ b. b.task ≡ (slice_index_or cs k d).task)
task-at bs cs k d e l =
    let P : List BlockDef →
    Type 0 = λ x. IsSomeAnd (slice_get bs k) (λ b. b.task ≡ (slice_index_or x k d).task) in
    subst P (sym e) (task-here bs k d l)

-- a run begins with a drive for each axis
pub going-first : (k : KernelState) (s : Setup) (drives : List DriveSim) → IsSetup s →
    k.config ≡ s → k.stopped ≡ false → length drives ≡ length s.axes → IsGoing k drives
going-first k s drives h c o each = rw c (record {
  each = each;
  few = h.within.sizes.axes;
  runs = o;
})

-- the same lines of the same configuration
pub same-lines : (s t : Setup) (xs ys : List BenchLine) → s ≡ t → xs ≡ ys →
    All (IsLineOf t) ys → All (IsLineOf s) xs
same-lines s t xs ys e f h =
    let P : Setup → Type 0 = λ u. All (IsLineOf u) xs in
    let Q : List BenchLine → Type 0 = λ ls. All (IsLineOf t) ls in
    subst P (sym e) (subst Q (sym f) h)
