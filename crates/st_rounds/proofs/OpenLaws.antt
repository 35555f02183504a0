-- Tasks are opened, and the run begins with them.
-- for: open_players, run_rounds
use Rattle.std.specs.Prelude.{◌≡◌, refl, ℕ, suc, ◌+◌, ◌<◌, true, Result, Ok, List, [], ◌∷◌, ◌++◌, drop, length, map, take}
use Rattle.std.proofs.Common.{◌∙◌, sym, ap, subst, arith}
use Rattle.std.proofs.lemmas.List.{append-nil, drop_all, length-append, map-append, take_all, take_more}
use Rattle.bench_run.specs.Going.{run_at}
use Rattle.bench_run.specs.Run.{Run, first_run}
use Rattle.bench_run.specs.declared.bench.RunFault.{RunFault}
use Rattle.drive_sim.specs.Sim.{DriveSim}
use Rattle.hot_standby.specs.Events.{opened}
use Rattle.machine_drives.specs.Drives.{drives_at_opening}
use Rattle.motion_history.specs.Entries.{Entry}
use Rattle.motion_history.specs.Setup.{Setup}
use Rattle.motion_kernel.specs.Histories.{IsLegal}
use Rattle.motion_kernel.specs.KernelState.{KernelState}
use Rattle.motion_laws.specs.Headline.{KeepsHeadline}
use Rattle.st_exec.specs.Compiled.{Compiled, no_program, program_at, program_of}
use Rattle.st_exec.specs.Following.{IsOpened}
use Rattle.st_tree.specs.declared.program.Task.{Task}
use Rattle.st_rounds.specs.Cell.{Cell, task_at_opening}
use Rattle.st_rounds.specs.Controllers.{cell_of}
use Rattle.st_rounds.specs.LegalRun.{IsLegalRun}
use Rattle.st_rounds.specs.Opening.{AreOpened, opening_of}
use Rattle.st_rounds.specs.Players.{ArePlaying, stand_of}
use Rattle.st_rounds.specs.Playing.{IsBetween}
use Rattle.st_rounds.specs.Rounds.{rounds, run_of}
use Rattle.st_rounds.specs.declared.cell.Controller.{Controller}
use Rattle.st_rounds.specs.declared.player.Player.{Player}

-- ---- one more is opened

-- the first this many tasks of a code are opened
pub record AreOpenedTo (code : Compiled) (i : ℕ) (ps : List Player) : Type 0 where
  pub count : length ps ≡ i
  pub playing : ArePlaying code 0 ps
  pub stands : map stand_of ps ≡ map opening_of (take i code.tasks)

playing-more : (code : Compiled) (n : ℕ) (ps : List Player) (q : Player) → ArePlaying code n ps →
    IsBetween code (n + length ps) q.task → ArePlaying code n (ps ++ q ∷ [])
playing-more code n [] q h b =
    let here : n + 0 ≡ n = omega arith in (subst (λ m. IsBetween code m q.task) here b, tt)
playing-more code n (p ∷ ps) q h b =
    let on : n + suc (length ps) ≡ suc n + length ps = omega arith in
    (h.0, playing-more code (suc n) ps q h.1 (subst (λ m. IsBetween code m q.task) on b))

opened-stand : (code : Compiled) (i : ℕ) (q : Player) → q.lives ≡ true → IsOpened code i q.task →
    stand_of q ≡ opening_of (program_at code i)
opened-stand code i q lives is =
    ap (λ v. record { vars = v; last = q.task.last.items; lives = q.lives }) is.vars
    ∙ ap (λ l. record { vars = (program_at code i).start; last = l; lives = q.lives }) is.last
    ∙ ap (λ b. record (opening_of (program_at code i)) { lives = b }) lives

tasks-more : (code : Compiled) (i : ℕ) → i < length code.tasks →
    map opening_of (take (i + 1) code.tasks) ≡
    map opening_of (take i code.tasks) ++ opening_of (program_at code i) ∷ []
unfolding program_at
tasks-more code i l =
    ap (map opening_of) (take_more code.tasks i no_program l)
    ∙ map-append opening_of (take i code.tasks) _

pub one-opened : (code : Compiled) (i : ℕ) (ps : List Player) (q : Player) →
    i < length code.tasks → AreOpenedTo code i ps → q.lives ≡ true → IsOpened code i q.task →
    AreOpenedTo code (i + 1) (ps ++ q ∷ [])
one-opened code i ps q l are lives is =
    let count = are.count in
    let here : i ≡ 0 + length ps = omega (arith, count) in
    record {
      count = length-append ps (q ∷ []) ∙ omega (arith, count);
      playing = playing-more code 0 ps q are.playing (subst (λ m. IsBetween code m q.task) here
          (record {
            number = is.task;
            follows = is.follows;
            asked = is.asked;
            got = is.got;
          }));
      stands = map-append stand_of ps (q ∷ [])
          ∙ ap (λ ds. ds ++ stand_of q ∷ []) are.stands
          ∙ ap (λ d. map opening_of (take i code.tasks) ++ d ∷ []) (opened-stand code i q lives is)
          ∙ sym (tasks-more code i l);
    }

-- ---- the run begins

opened-stands : (ts : List Task) → map opening_of (map program_of ts) ≡ map task_at_opening ts
unfolding program_of
opened-stands [] = refl
opened-stands (t ∷ ts) = ap (λ ds. task_at_opening t ∷ ds) (opened-stands ts)

-- rounds from the opening are the run
pub run-is : (p : Controller) (k k2 : KernelState) (ds ds2 : List DriveSim) (ps : List Player)
    (w : Result (Unit {0}) RunFault) → k ≡ opened p.config →
    ds ≡ drives_at_opening p.config.axes p.drives → AreOpened p.code ps →
    run_at k2 ds2 w ≡
    rounds (p.config.cycles + 1) (cell_of p) (map stand_of ps) (run_at k ds (Ok tt)) →
    run_at k2 ds2 w ≡ run_of (cell_of p)
unfolding run_of
run-is p k k2 ds ds2 ps w at drives are e =
    e
    ∙ ap (λ x. rounds (p.config.cycles + 1) (cell_of p) x (run_at k ds (Ok tt)))
    (are.stands ∙ ap (map opening_of) p.compiled ∙ opened-stands p.program.tasks.items)
    ∙ ap (λ x. rounds (p.config.cycles + 1) (cell_of p) (map task_at_opening p.program.tasks.items)
    (run_at x ds (Ok tt))) at
    ∙ ap (λ x. rounds (p.config.cycles + 1) (cell_of p) (map task_at_opening p.program.tasks.items)
    (first_run x)) drives

-- the run that a kernel made is legal, as the kernel's history is
pub legal-run : (c : Cell) (k : KernelState) (drives : List DriveSim)
    (w : Result (Unit {0}) RunFault) → k.config ≡ c.setup → run_at k drives w ≡ run_of c →
    IsLegal k.config k.history → KeepsHeadline k.config k.history → IsLegalRun c
legal-run c k drives w config r legal motion =
    let h : k.history ≡ (run_of c).history = ap (λ (x : Run). x.history) r in
    let L : Setup → Type 0 = λ s. IsLegal s k.history in
    let M : List Entry → Type 0 = λ es. IsLegal c.setup es in
    let N : Setup → Type 0 = λ s. KeepsHeadline s k.history in
    let O : List Entry → Type 0 = λ es. KeepsHeadline c.setup es in
    record { legal = subst M h (subst L config legal); motion = subst O h (subst N config motion) }

-- a slice of a whole list that was written back
pub slice-back : {A : Type 0} (n : ℕ) (new old : List A) → length new ≡ length old →
    n ≡ length old → take n (new ++ drop (length new) old) ≡ new
slice-back n new old fits all =
    ap (λ l. take n (new ++ l)) (drop_all (length new) old (omega (arith, fits)))
    ∙ ap (take n) (append-nil new) ∙ take_all n new (omega (arith, fits, all))
