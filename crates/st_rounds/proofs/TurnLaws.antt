-- The turns of tasks, one after another.
-- for: make_turns
use Rattle.std.specs.Prelude.{◌≡◌, refl, ℕ, zero, suc, ◌+◌, ◌<◌, ◌≤◌, false, Some, Ok, Err, List, [], ◌∷◌, ◌++◌, length, map, take, drop, slice_get, slice_index_or, slice_set}
use Rattle.std.proofs.Common.{◌∙◌, sym, ap, subst, arith}
use Rattle.std.proofs.lemmas.List.{append-nil, append_assoc, drop_all, drop_more, drop-set-lt, length-set, map-append, take_all, take_more_set}
use Rattle.bench_run.specs.Going.{run_at}
use Rattle.bench_run.specs.Run.{Run}
use Rattle.bench_run.specs.declared.bench.RunFault.{RunFault}
use Rattle.drive_sim.specs.Sim.{DriveSim}
use Rattle.motion_kernel.specs.KernelState.{KernelState}
use Rattle.st_exec.specs.Compiled.{Compiled}
use Rattle.st_tree.specs.declared.program.Task.{Task}
use Rattle.st_rounds.proofs.Kept.{turns-stay}
use Rattle.st_rounds.specs.Cell.{Cell, TaskStand}
use Rattle.st_rounds.specs.Controllers.{cell_of}
use Rattle.st_rounds.specs.Playing.{IsBetween}
use Rattle.st_rounds.specs.Players.{ArePlaying, HasMade, HasTurned, stand_of}
use Rattle.st_rounds.specs.Rounds.{Round, turn, turns}
use Rattle.st_rounds.specs.declared.cell.Controller.{Controller}
use Rattle.st_rounds.specs.declared.player.Player.{Player}

-- ---- one of some tasks

playing-from : (code : Compiled) (n : ℕ) (ps : List Player) (i : ℕ) (d : Player) → i < length ps →
    ArePlaying code n ps → IsBetween code (n + i) (slice_index_or ps i d).task
playing-from code n [] i d l h = absurd (omega (arith, l))
playing-from code n (p ∷ ps) zero d l h =
    let e : n ≡ n + 0 = omega arith in subst (λ m. IsBetween code m p.task) e h.0
playing-from code n (p ∷ ps) (suc i) d l h =
    let e : suc n + i ≡ n + suc i = omega arith in
    subst (λ m. IsBetween code m (slice_index_or ps i d).task) e
    (playing-from code (suc n) ps i d (omega (arith, l)) h.1)

pub playing-at : (code : Compiled) (ps : List Player) (i : ℕ) (d : Player) → i < length ps →
    ArePlaying code 0 ps → IsBetween code i (slice_index_or ps i d).task
playing-at code ps i d l h =
    let e : 0 + i ≡ i = omega arith in
    subst (λ m. IsBetween code m (slice_index_or ps i d).task) e (playing-from code 0 ps i d l h)

playing-set-from : (code : Compiled) (n : ℕ) (ps : List Player) (i : ℕ) (q : Player) →
    ArePlaying code n ps → IsBetween code (n + i) q.task → ArePlaying code n (slice_set ps i q)
playing-set-from code n [] i q h b = tt
playing-set-from code n (p ∷ ps) zero q h b =
    let e : n + 0 ≡ n = omega arith in (subst (λ m. IsBetween code m q.task) e b, h.1)
playing-set-from code n (p ∷ ps) (suc i) q h b =
    let e : n + suc i ≡ suc n + i = omega arith in
    (h.0, playing-set-from code (suc n) ps i q h.1 (subst (λ m. IsBetween code m q.task) e b))

playing-set : (code : Compiled) (ps : List Player) (i : ℕ) (q : Player) → ArePlaying code 0 ps →
    IsBetween code i q.task → ArePlaying code 0 (slice_set ps i q)
playing-set code ps i q h b =
    let e : i ≡ 0 + i = omega arith in
    playing-set-from code 0 ps i q h (subst (λ m. IsBetween code m q.task) e b)

drop-got : {A : Type 0} (xs : List A) (i : ℕ) (x : A) → slice_get xs i ≡ Some x →
    drop i xs ≡ x ∷ drop (suc i) xs
drop-got [] i x h = absurd (cc)
drop-got (y ∷ ys) zero x h = ap (λ z. z ∷ ys) (let e : y ≡ x = cc in e)
drop-got (y ∷ ys) (suc i) x h = drop-got ys i x h

-- ---- the turns that are left

-- the turns that are left lead to the whole, after the stands of those that had theirs
pub record IsLeft (left : Round) (before : List TaskStand) (whole : Round) : Type 0 where
  pub run : left.run ≡ whole.run
  pub stands : before ++ left.stands ≡ whole.stands

-- what the loop of turns keeps
pub record AreInTurns (p : Controller) (i : ℕ) (k : KernelState) (now : List Player)
    (k0 : KernelState) (old : List Player) : Type 0 where
  pub config : k.config ≡ p.config
  pub runs : k.stopped ≡ false
  pub each : length now ≡ length p.program.tasks.items
  pub playing : ArePlaying p.code 0 now
  pub so_far : (drives : List DriveSim) → IsLeft
      (turns (cell_of p) i (drop i p.program.tasks.items) (map stand_of (drop i now))
      (run_at k drives (Ok tt)))
      (map stand_of (take i now))
      (turns (cell_of p) 0 p.program.tasks.items (map stand_of old) (run_at k0 drives (Ok tt)))

-- turns of a task and those after it
one-left : (c : Cell) (i : ℕ) (t : Task) (ts : List Task) (d : TaskStand) (ds : List TaskStand)
    (r : Run) →
    turns c i (t ∷ ts) (d ∷ ds) r ≡ record {
      run = (turns c (suc i) ts ds (turn c i t d r).run).run;
      stands = (turn c i t d r).stand ∷ (turns c (suc i) ts ds (turn c i t d r).run).stands;
    }
unfolding turns
one-left c i t ts d ds r = refl

-- the turns that are left, by the next of them
left-is : (c : Cell) (i : ℕ) (trees : List Task) (t : Task) (now : List Player) (d : Player)
    (r : Run) → slice_get trees i ≡ Some t → i < length now →
    turns c i (drop i trees) (map stand_of (drop i now)) r ≡
    turns c i (t ∷ drop (suc i) trees)
    (stand_of (slice_index_or now i d) ∷ map stand_of (drop (suc i) now)) r
left-is c i trees t now d r there l =
    let on : i + 1 ≡ suc i = omega arith in
    let ps : drop i now ≡ slice_index_or now i d ∷ drop (suc i) now =
    drop_more now i d l ∙ ap (λ n. slice_index_or now i d ∷ drop n now) on in
    ap (λ ts. turns c i ts (map stand_of (drop i now)) r) (drop-got trees i t there)
    ∙ ap (λ qs. turns c i (t ∷ drop (suc i) trees) (map stand_of qs) r) ps

-- the stands after the turn of one more
stands-more : (i : ℕ) (now : List Player) (q : Player) (stand : TaskStand)
    (others : List TaskStand) → i < length now → stand_of q ≡ stand →
    map stand_of (take (suc i) (slice_set now i q)) ++ others ≡
    map stand_of (take i now) ++ stand ∷ others
stands-more i now q stand others l e =
    let on : suc i ≡ i + 1 = omega arith in
    ap (λ n. map stand_of (take n (slice_set now i q)) ++ others) on
    ∙ ap (λ ps. map stand_of ps ++ others) (take_more_set now i q l)
    ∙ ap (λ ds. ds ++ others) (map-append stand_of (take i now) (q ∷ []))
    ∙ append_assoc (map stand_of (take i now)) (stand_of q ∷ []) others
    ∙ ap (λ x. map stand_of (take i now) ++ x ∷ others) e

next-left : (c : Cell) (i : ℕ) (trees : List Task) (t : Task) (now : List Player) (d q : Player)
    (r r2 : Run) (whole : Round) → slice_get trees i ≡ Some t → i < length now →
    r2 ≡ (turn c i t (stand_of (slice_index_or now i d)) r).run →
    stand_of q ≡ (turn c i t (stand_of (slice_index_or now i d)) r).stand →
    IsLeft (turns c i (drop i trees) (map stand_of (drop i now)) r) (map stand_of
    (take i now)) whole →
    IsLeft (turns c (suc i) (drop (suc i) trees) (map stand_of (drop (suc i)
    (slice_set now i q))) r2)
    (map stand_of (take (suc i) (slice_set now i q))) whole
next-left c i trees t now d q r r2 whole there l run stand h =
    let first = turn c i t (stand_of (slice_index_or now i d)) r in
    let others = turns c (suc i) (drop (suc i) trees) (map stand_of (drop (suc i) now)) in
    let same : turns c (suc i) (drop (suc i) trees) (map stand_of (drop (suc i)
    (slice_set now i q))) r2 ≡
    others first.run =
    ap (λ ps. turns c (suc i) (drop (suc i) trees) (map stand_of ps) r2)
    (drop-set-lt (suc i) now i q (omega arith)) ∙ ap others run in
    let is = left-is c i trees t now d r there l
    ∙ one-left c i t (drop (suc i) trees) (stand_of (slice_index_or now i d))
    (map stand_of (drop (suc i) now)) r in
    record {
      run = ap (λ (x : Round). x.run) same ∙ sym (ap (λ (x : Round). x.run) is) ∙ h.run;
      stands = ap (λ (x : Round). map stand_of (take (suc i) (slice_set now i q)) ++ x.stands) same
          ∙ stands-more i now q first.stand (others first.run).stands l stand
          ∙ sym (ap (λ (x : Round). map stand_of (take i now) ++ x.stands) is) ∙ h.stands;
    }

-- ---- the loop

-- the tasks keep their number
pub within : (i n m t : ℕ) → i < n → m ≡ t → n ≡ t → i < m
within i n m t l a b = omega (arith, l, a, b)

-- a task that plays has a tree
pub tree-at : (p : Controller) (i : ℕ) (now : List Player) → i < length now →
    length now ≡ length p.program.tasks.items →
    (t : Task) × (slice_get p.program.tasks.items i ≡ Some t)
tree-at p i now l each = got-of p.program.tasks.items i (omega (arith, l, each))
  where
    got-of : (xs : List Task) (n : ℕ) → n < length xs → (x : Task) × (slice_get xs n ≡ Some x)
    got-of [] n less = absurd (omega (arith, less))
    got-of (x ∷ xs) zero less = (x, refl)
    got-of (x ∷ xs) (suc n) less = got-of xs n (omega (arith, less))

-- one more had its turn
pub one-turned : (p : Controller) (i : ℕ) (k k2 k0 : KernelState) (now old : List Player)
    (d q : Player) → i < length now → AreInTurns p i k now k0 old → k2.config ≡ k.config →
    k2.stopped ≡ false → IsBetween p.code i q.task →
    ((t : Task) → slice_get p.program.tasks.items i ≡ Some t → (drives : List DriveSim) →
    HasTurned (turn (cell_of p) i t (stand_of (slice_index_or now i d)) (run_at k drives (Ok tt)))
    k2 drives (Ok tt) q) →
    AreInTurns p (i + 1) k2 (slice_set now i q) k0 old
one-turned p i k k2 k0 now old d q l is config runs between made =
    let on : suc i ≡ i + 1 = omega arith in
    let tree = tree-at p i now l is.each in
    subst (λ n. AreInTurns p n k2 (slice_set now i q) k0 old) on (record {
      config = config ∙ is.config;
      runs = runs;
      each = length-set now i q ∙ is.each;
      playing = playing-set p.code now i q is.playing between;
      so_far = λ drives. next-left (cell_of p) i p.program.tasks.items tree.0 now d q
          (run_at k drives (Ok tt)) (run_at k2 drives (Ok tt)) _ tree.1 l
          (made tree.0 tree.1 drives).0 (made tree.0 tree.1 drives).1 (is.so_far drives);
    })

-- the run ended in a turn
pub turn-stops : (p : Controller) (i : ℕ) (k k2 k0 : KernelState) (now old new : List Player)
    (d q : Player) (f : RunFault) → i < length now → AreInTurns p i k now k0 old →
    ((t : Task) → slice_get p.program.tasks.items i ≡ Some t → (drives : List DriveSim) →
    HasTurned (turn (cell_of p) i t (stand_of (slice_index_or now i d)) (run_at k drives (Ok tt)))
    k2 drives (Err f) q) → (drives : List DriveSim) →
    HasMade (turns (cell_of p) 0 p.program.tasks.items (map stand_of old) (run_at k0 drives
    (Ok tt)))
    k2 drives (Err f) new
turn-stops p i k k2 k0 now old new d q f l is made drives =
    let tree = tree-at p i now l is.each in
    let c = cell_of p in
    let trees = p.program.tasks.items in
    let r = run_at k drives (Ok tt) in
    let first = turn c i tree.0 (stand_of (slice_index_or now i d)) r in
    let ended : run_at k2 drives (Err f) ≡ first.run = made tree.0 tree.1 drives in
    ended
    ∙ sym (turns-stay c (suc i) (drop (suc i) trees) (map stand_of (drop (suc i) now)) first.run f
    (sym (ap (λ (x : Run). x.ending) ended)))
    ∙ sym (ap (λ (x : Round). x.run)
    (left-is c i trees tree.0 now d r tree.1 l
    ∙ one-left c i tree.0 (drop (suc i) trees) (stand_of (slice_index_or now i d))
    (map stand_of (drop (suc i) now)) r)) ∙ (is.so_far drives).run

none-left : (c : Cell) (i : ℕ) (ts : List Task) (r : Run) →
    turns c i ts [] r ≡ record { run = r; stands = [] }
unfolding turns
none-left c i [] r = refl
none-left c i (t ∷ ts) r = refl

-- all had their turns
pub all-turned : (p : Controller) (i : ℕ) (k k0 : KernelState) (now old : List Player) →
    length now ≤ i → AreInTurns p i k now k0 old → (drives : List DriveSim) →
    HasMade (turns (cell_of p) 0 p.program.tasks.items (map stand_of old) (run_at k0 drives
    (Ok tt)))
    k drives (Ok tt) now
all-turned p i k k0 now old l is drives =
    let c = cell_of p in
    let trees = p.program.tasks.items in
    let r = run_at k drives (Ok tt) in
    let left : turns c i (drop i trees) (map stand_of (drop i now)) r ≡
    record { run = r; stands = [] } =
    ap (λ ps. turns c i (drop i trees) (map stand_of ps) r) (drop_all i now l)
    ∙ none-left c i (drop i trees) r in
    let far = is.so_far drives in (
      sym (ap (λ (x : Round). x.run) left) ∙ far.run,
      sym (ap (map stand_of) (take_all i now l)) ∙ sym (append-nil (map stand_of (take i now)))
          ∙ sym (ap (λ (x : Round). map stand_of (take i now) ++ x.stands) left) ∙ far.stands,
    )
