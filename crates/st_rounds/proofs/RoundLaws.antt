-- Rounds, one after another.
-- for: make_rounds, tasks_make_their_scans
use Rattle.std.specs.Prelude.{◌≡◌, refl, ℕ, zero, suc, ◌+◌, ◌-◌, ◌<◌, true, false, ◌||◌, if◌then◌else◌, Result, Ok, Err, List, [], ◌∷◌, ◌++◌, length, map}
use Rattle.std.specs.List.{list_any}
use Rattle.std.proofs.Common.{◌∙◌, inl, inr, sym, ap, subst, arith}
use Rattle.std.proofs.lemmas.Bool.{cases_Bool}
use Rattle.bench_run.specs.Going.{IsGoing, run_at}
use Rattle.bench_run.specs.Run.{Event, Run, a_call, a_cycle, an_end, cycled, happened, is_cycle, made, next_of, room_for, tried}
use Rattle.bench_run.specs.declared.bench.RunFault.{RunFault}
use Rattle.drive_sim.specs.Sim.{DriveSim}
use Rattle.motion_history.specs.Entries.{CyclesAddUp, Entry, cycle_count, cycles_of}
use Rattle.motion_history.specs.Setup.{Setup}
use Rattle.motion_kernel.specs.KernelState.{KernelState}
use Rattle.st_tree.specs.declared.program.Task.{Task}
use Rattle.st_rounds.proofs.Kept.{KeptByScans, event-stays, rounds-stay, turns-keeps}
use Rattle.st_rounds.proofs.MadeLaws.{goes}
use Rattle.st_rounds.specs.Cell.{Cell, TaskStand}
use Rattle.st_rounds.specs.Controllers.{cell_of}
use Rattle.st_rounds.specs.Players.{ArePlaying, HasMade, stand_of}
use Rattle.st_rounds.specs.Rounds.{Round, any_lives, continued, rounds, turns}
use Rattle.st_rounds.specs.declared.cell.Controller.{Controller}
use Rattle.st_rounds.specs.declared.player.Player.{Player}

-- ---- the cycles of a round

none-added : CyclesAddUp → (es : List Entry) (e : Entry) → cycle_count e ≡ 0 →
    cycles_of (es ++ e ∷ []) ≡ cycles_of es
none-added add es e n = let h = add es e in omega (arith, h, n)

-- another event than a cycle adds none
no-cycle : CyclesAddUp → (s : Setup) (e : Event) (r : Run) → is_cycle e ≡ false →
    cycles_of (happened s e r).history ≡ cycles_of r.history
no-cycle add s (a_call k i) r n = none-added add r.history _ refl
no-cycle add s a_cycle r n = absurd (let bad : true ≡ false = n in cc)
no-cycle add s (an_end t) r n = none-added add r.history _ refl

tried-cycles : CyclesAddUp → (s : Setup) (e : Event) (r : Run) (w : Result (Unit {0}) RunFault) →
    is_cycle e ≡ false → cycles_of (tried s e r w).history ≡ cycles_of r.history
tried-cycles add s e r (Ok u) n = no-cycle add s e r n
tried-cycles add s e r (Err f) n = refl

next-cycles : CyclesAddUp → (s : Setup) (e : Event) (r : Run) (w : Result (Unit {0}) RunFault) →
    is_cycle e ≡ false → cycles_of (next_of s e r w).history ≡ cycles_of r.history
next-cycles add s e r (Ok u) n = tried-cycles add s e r (room_for s r.history (is_cycle e)) n
next-cycles add s e r (Err f) n = refl

made-cycles : CyclesAddUp → (s : Setup) (e : Event) (r : Run) → is_cycle e ≡ false →
    cycles_of (made s e r).history ≡ cycles_of r.history
unfolding made
made-cycles add s e r n = next-cycles add s e r r.ending n

scans-add-none : CyclesAddUp → (s : Setup) (n : ℕ) →
    KeptByScans s (λ x. cycles_of x.history ≡ n)
scans-add-none add s n = record {
  call = λ k i r h. made-cycles add s (a_call k i) r refl ∙ h;
  end = λ t r h. made-cycles add s (an_end t) r refl ∙ h;
}

pub turns-add-none : CyclesAddUp → (c : Cell) (ts : List Task) (ds : List TaskStand) (r : Run) →
    cycles_of (turns c 0 ts ds r).run.history ≡ cycles_of r.history
turns-add-none add c ts ds r =
    turns-keeps c (λ x. cycles_of x.history ≡ cycles_of r.history)
    (scans-add-none add c.setup (cycles_of r.history)) 0 ts ds r refl

pub cycled-adds : CyclesAddUp → (s : Setup) (r : Run) →
    cycles_of (happened s a_cycle r).history ≡ cycles_of r.history + 1
unfolding cycled
cycled-adds add s r = add r.history _

-- a cycle was made, and is one more
pub record IsCycleMore (k k2 : KernelState) : Type 0 where
  pub room : cycles_of k.history < k.config.cycles
  pub more : cycles_of k2.history ≡ cycles_of k.history + 1

cycle-more : CyclesAddUp → (k k2 : KernelState) (drives drives2 : List DriveSim) →
    run_at k2 drives2 (Ok tt) ≡ made k.config a_cycle (run_at k drives (Ok tt)) → IsCycleMore k k2
cycle-more add k k2 drives drives2 e =
    let r = run_at k drives (Ok tt) in
    let on = goes k.config a_cycle r refl (sym (ap (λ (x : Run). x.ending) e)) in
    record {
      room = on.cycle refl;
      more = ap (λ (x : Run). cycles_of x.history) e
          ∙ ap (λ (x : Run). cycles_of x.history) on.is ∙ cycled-adds add k.config r;
    }

-- ---- what comes after the turns

continued-on : (c : Cell) (on : List TaskStand → Run → Run) (x : Round) → any_lives x.stands ≡ true →
    continued c on x ≡ on x.stands (made c.setup a_cycle x.run)
continued-on c on x e =
    ap (λ b. if b then on x.stands (made c.setup a_cycle x.run) else x.run) e

continued-ends : (c : Cell) (on : List TaskStand → Run → Run) (x : Round) →
    any_lives x.stands ≡ false → continued c on x ≡ x.run
continued-ends c on x e =
    ap (λ b. if b then on x.stands (made c.setup a_cycle x.run) else x.run) e

-- a run that has ended stays
continued-stays : (more : ℕ) (c : Cell) (x : Round) (f : RunFault) → x.run.ending ≡ Err f →
    continued c (rounds more c) x ≡ x.run
continued-stays more c x f e = elim (cases_Bool (any_lives x.stands)) [
  | inl lives ↦ continued-on c (rounds more c) x lives ∙ rounds-stay more c x.stands _ f
      (ap (λ (y : Run). y.ending) stays ∙ e) ∙ stays
  | inr none ↦ continued-ends c (rounds more c) x none
]
  where
    stays : made c.setup a_cycle x.run ≡ x.run
    stays = event-stays c.setup a_cycle x.run x.run f e refl

rounds-are : (more : ℕ) (c : Cell) (ds : List TaskStand) (r : Run) →
    rounds (suc more) c ds r ≡ continued c (rounds more c) (turns c 0 c.trees ds r)
unfolding rounds
rounds-are more c ds r = refl

-- ---- the loop

-- what the loop of rounds keeps
pub record AreInRounds (p : Controller) (k : KernelState) (drives : List DriveSim)
    (now : List Player) (k0 : KernelState) (drives0 : List DriveSim) (old : List Player)
    : Type 0 where
  pub config : k.config ≡ p.config
  pub going : IsGoing k drives
  pub each : length now ≡ length p.program.tasks.items
  pub playing : ArePlaying p.code 0 now
  pub more : ℕ
  pub enough : k.config.cycles - cycles_of k.history < more
  pub so_far : rounds more (cell_of p) (map stand_of now) (run_at k drives (Ok tt)) ≡
      rounds (p.config.cycles + 1) (cell_of p) (map stand_of old) (run_at k0 drives0 (Ok tt))

-- the whole is what comes after the turns of this round
whole-by : (more : ℕ) (p : Controller) (k k0 : KernelState) (drives drives0 : List DriveSim)
    (now old : List Player) → (is : AreInRounds p k drives now k0 drives0 old) → is.more ≡ suc more →
    continued (cell_of p) (rounds more (cell_of p))
    (turns (cell_of p) 0 p.program.tasks.items (map stand_of now) (run_at k drives (Ok tt))) ≡
    rounds (p.config.cycles + 1) (cell_of p) (map stand_of old) (run_at k0 drives0 (Ok tt))
whole-by more p k k0 drives drives0 now old is e =
    sym (rounds-are more (cell_of p) (map stand_of now) (run_at k drives (Ok tt)))
    ∙ sym (ap (λ n. rounds n (cell_of p) (map stand_of now) (run_at k drives (Ok tt))) e)
    ∙ is.so_far

-- there is a round left
round-left : (n m : ℕ) → m < n → (more : ℕ) × (n ≡ suc more)
round-left zero m l = absurd (omega (arith, l))
round-left (suc n) m l = (n, refl)

left-of : (p : Controller) (k k0 : KernelState) (drives drives0 : List DriveSim)
    (now old : List Player) → (is : AreInRounds p k drives now k0 drives0 old) →
    (more : ℕ) × (is.more ≡ suc more)
left-of p k k0 drives drives0 now old is = round-left is.more _ is.enough

-- the run ended in a turn
pub round-stops : (p : Controller) (k k2 k0 : KernelState) (drives drives0 : List DriveSim)
    (now now2 old : List Player) (f : RunFault) → AreInRounds p k drives now k0 drives0 old →
    ((ds : List DriveSim) → HasMade (turns (cell_of p) 0 p.program.tasks.items (map stand_of now)
    (run_at k ds (Ok tt))) k2 ds (Err f) now2) →
    run_at k2 drives (Err f) ≡
    rounds (p.config.cycles + 1) (cell_of p) (map stand_of old) (run_at k0 drives0 (Ok tt))
round-stops p k k2 k0 drives drives0 now now2 old f is made =
    let left = left-of p k k0 drives drives0 now old is in
    let x = turns (cell_of p) 0 p.program.tasks.items (map stand_of now) (run_at k drives (Ok tt)) in
    let ended : run_at k2 drives (Err f) ≡ x.run = made drives in
    ended
    ∙ sym (continued-stays left.0 (cell_of p) x f (sym (ap (λ (r : Run). r.ending) ended)))
    ∙ whole-by left.0 p k k0 drives drives0 now old is left.1

-- the turns of a round were made
pub record HasRound (p : Controller) (k k2 : KernelState) (now now2 : List Player) : Type 0 where
  pub config : k2.config ≡ k.config
  pub runs : k2.stopped ≡ false
  pub each : length now2 ≡ length now
  pub playing : ArePlaying p.code 0 now2
  pub made : (ds : List DriveSim) → HasMade (turns (cell_of p) 0 p.program.tasks.items
      (map stand_of now) (run_at k ds (Ok tt))) k2 ds (Ok tt) now2

-- no task lives after it
pub round-ends : (p : Controller) (k k2 k0 : KernelState) (drives drives0 : List DriveSim)
    (now now2 old : List Player) → AreInRounds p k drives now k0 drives0 old →
    HasRound p k k2 now now2 → any_lives (map stand_of now2) ≡ false →
    run_at k2 drives (Ok tt) ≡
    rounds (p.config.cycles + 1) (cell_of p) (map stand_of old) (run_at k0 drives0 (Ok tt))
round-ends p k k2 k0 drives drives0 now now2 old is round none =
    let left = left-of p k k0 drives drives0 now old is in
    let x = turns (cell_of p) 0 p.program.tasks.items (map stand_of now) (run_at k drives (Ok tt)) in
    let made = round.made drives in
    made.0
    ∙ sym (continued-ends (cell_of p) (rounds left.0 (cell_of p)) x
    (sym (ap any_lives made.1) ∙ none))
    ∙ whole-by left.0 p k k0 drives drives0 now old is left.1

-- what comes after the turns, where a task lives
lives-on : (more : ℕ) (p : Controller) (k k2 : KernelState) (drives : List DriveSim)
    (now now2 : List Player) (r3 : Run) → k.config ≡ p.config → HasRound p k k2 now now2 →
    any_lives (map stand_of now2) ≡ true → r3 ≡ made k2.config a_cycle (run_at k2 drives (Ok tt)) →
    continued (cell_of p) (rounds more (cell_of p))
    (turns (cell_of p) 0 p.program.tasks.items (map stand_of now) (run_at k drives (Ok tt))) ≡
    rounds more (cell_of p) (map stand_of now2) r3
lives-on more p k k2 drives now now2 r3 config round lives e =
    let x = turns (cell_of p) 0 p.program.tasks.items (map stand_of now) (run_at k drives (Ok tt)) in
    let both = round.made drives in
    let same : r3 ≡ made p.config a_cycle x.run =
    e ∙ ap (λ s. made s a_cycle (run_at k2 drives (Ok tt))) (round.config ∙ config)
    ∙ ap (made p.config a_cycle) both.0 in
    continued-on (cell_of p) (rounds more (cell_of p)) x (sym (ap any_lives both.1) ∙ lives)
    ∙ sym (ap (λ ds. rounds more (cell_of p) ds (made p.config a_cycle x.run)) both.1)
    ∙ sym (ap (rounds more (cell_of p) (map stand_of now2)) same)

-- a task lives, and the cycle can't be made
pub cycle-stops : (p : Controller) (k k2 k3 k0 : KernelState) (drives drives3 drives0 : List DriveSim)
    (now now2 old : List Player) (f : RunFault) → AreInRounds p k drives now k0 drives0 old →
    HasRound p k k2 now now2 → any_lives (map stand_of now2) ≡ true →
    run_at k3 drives3 (Err f) ≡ made k2.config a_cycle (run_at k2 drives (Ok tt)) →
    run_at k3 drives3 (Err f) ≡
    rounds (p.config.cycles + 1) (cell_of p) (map stand_of old) (run_at k0 drives0 (Ok tt))
cycle-stops p k k2 k3 k0 drives drives3 drives0 now now2 old f is round lives e =
    let left = left-of p k k0 drives drives0 now old is in
    let r3 = run_at k3 drives3 (Err f) in
    sym (rounds-stay left.0 (cell_of p) (map stand_of now2) r3 f refl)
    ∙ sym (lives-on left.0 p k k2 drives now now2 r3 is.config round lives e)
    ∙ whole-by left.0 p k k0 drives drives0 now old is left.1

fewer-cycles : (cycles n n2 n3 more : ℕ) → n2 ≡ n → n2 < cycles → n3 ≡ n2 + 1 →
    cycles - n < suc more → cycles - n3 < more
fewer-cycles cycles n n2 n3 more a b c d = omega (arith, a, b, c, d)

same-cycles : CyclesAddUp → (p : Controller) (k k2 : KernelState) (drives : List DriveSim)
    (now now2 : List Player) → HasRound p k k2 now now2 →
    cycles_of k2.history ≡ cycles_of k.history
same-cycles add p k k2 drives now now2 round =
    ap (λ (r : Run). cycles_of r.history) (round.made drives).0
    ∙ turns-add-none add (cell_of p) p.program.tasks.items (map stand_of now)
    (run_at k drives (Ok tt))

-- the cycle is made, and the next round comes
pub round-goes-on : CyclesAddUp → (p : Controller) (k k2 k3 k0 : KernelState)
    (drives drives3 drives0 : List DriveSim) (now now2 old : List Player) →
    AreInRounds p k drives now k0 drives0 old → HasRound p k k2 now now2 →
    any_lives (map stand_of now2) ≡ true → k3.config ≡ k2.config → IsGoing k3 drives3 →
    run_at k3 drives3 (Ok tt) ≡ made k2.config a_cycle (run_at k2 drives (Ok tt)) →
    AreInRounds p k3 drives3 now2 k0 drives0 old
round-goes-on add p k k2 k3 k0 drives drives3 drives0 now now2 old is round lives config going e =
    let left = left-of p k k0 drives drives0 now old is in
    let cycle = cycle-more add k2 k3 drives drives3 e in
    let same : k3.config ≡ k.config = config ∙ round.config in
    let few : k.config.cycles - cycles_of k.history < suc left.0 =
    subst (λ n. k.config.cycles - cycles_of k.history < n) left.1 is.enough in
    let room : cycles_of k2.history < k.config.cycles =
    subst (λ (s : Setup). cycles_of k2.history < s.cycles) round.config cycle.room in
    record {
      config = same ∙ is.config;
      going = going;
      each = round.each ∙ is.each;
      playing = round.playing;
      more = left.0;
      enough = subst (λ (s : Setup). s.cycles - cycles_of k3.history < left.0) (sym same)
          (fewer-cycles k.config.cycles (cycles_of k.history) (cycles_of k2.history)
          (cycles_of k3.history) left.0 (same-cycles add p k k2 drives now now2 round) room
          cycle.more few);
      so_far = sym (lives-on left.0 p k k2 drives now now2 (run_at k3 drives3 (Ok tt)) is.config round
          lives e) ∙ whole-by left.0 p k k0 drives drives0 now old is left.1;
    }

-- the rounds begin
pub rounds-begin : (p : Controller) (k : KernelState) (drives : List DriveSim) (ps : List Player) →
    k.config ≡ p.config → IsGoing k drives → length ps ≡ length p.program.tasks.items →
    ArePlaying p.code 0 ps → AreInRounds p k drives ps k drives ps
rounds-begin p k drives ps config going each playing =
    let same : k.config.cycles ≡ p.config.cycles = ap (λ (s : Setup). s.cycles) config in
    record {
      config = config;
      going = going;
      each = each;
      playing = playing;
      more = p.config.cycles + 1;
      enough = omega (arith, same);
      so_far = refl;
    }

-- there are fewer cycles left
pub fewer-left : CyclesAddUp → (p : Controller) (k k2 k3 : KernelState)
    (drives drives3 : List DriveSim) (now now2 : List Player) → HasRound p k k2 now now2 →
    k3.config ≡ k2.config →
    run_at k3 drives3 (Ok tt) ≡ made k2.config a_cycle (run_at k2 drives (Ok tt)) →
    k3.config.cycles - cycles_of k3.history < k.config.cycles - cycles_of k.history
fewer-left add p k k2 k3 drives drives3 now now2 round config e =
    let cycle = cycle-more add k2 k3 drives drives3 e in
    let same : k3.config.cycles ≡ k.config.cycles =
    ap (λ (s : Setup). s.cycles) (config ∙ round.config) in
    let before : k2.config.cycles ≡ k.config.cycles = ap (λ (s : Setup). s.cycles) round.config in
    let room = cycle.room in
    let more = cycle.more in
    let none = same-cycles add p k k2 drives now now2 round in
    omega (arith, same, before, room, more, none)

-- a task lives where one is that does
pub lives-of : (ps : List Player) →
    any_lives (map stand_of ps) ≡ list_any (λ (p : Player). p.lives) ps
lives-of [] = refl
lives-of (p ∷ ps) = ap (λ b. p.lives || b) (lives-of ps)
