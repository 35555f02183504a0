-- How a scan ends: it is over, or the run ends in it.
-- for: make_scan
use Rattle.std.specs.Prelude.{◌≡◌, ℕ, zero, suc, ◌-◌, ◌<◌, Bool, true, false, not, if◌then◌else◌, Some, Ok, Err, List, [], length, slice_get}
use Rattle.std.proofs.Common.{◌∙◌, sym, ap, arith}
use Rattle.bench_run.specs.Going.{run_at}
use Rattle.bench_run.specs.Run.{Run, a_call, an_end, made}
use Rattle.bench_run.specs.declared.bench.RunFault.{RunFault}
use Rattle.drive_sim.specs.Sim.{DriveSim}
use Rattle.motion_kernel.specs.KernelState.{KernelState}
use Rattle.st_exec.specs.Compiled.{is_ended, program_at, program_of}
use Rattle.st_exec.specs.Following.{Follows, IsOver}
use Rattle.st_exec.specs.Scan.{Asked, Over, scan_of}
use Rattle.st_exec.specs.declared.task.StTask.{StTask}
use Rattle.st_tree.specs.declared.program.Task.{Task}
use Rattle.st_rounds.proofs.Kept.{scan-stays}
use Rattle.st_rounds.proofs.ScanLaws.{HasStopped, IsScanning, asks-stopped, call-made, code-of, one-tree, over-made}
use Rattle.st_rounds.specs.Controllers.{cell_of}
use Rattle.st_rounds.specs.Playing.{HasScanned, IsBetween, stand_at}
use Rattle.st_rounds.specs.Rounds.{Turn, scan, scan_on, scanned}
use Rattle.st_rounds.specs.declared.cell.Controller.{Controller}

-- ---- a scan that is over

-- what a task says at the end of a scan, which was its last or not
abbrev pub SaysOver : Controller → StTask → StTask → Bool → Type 0
SaysOver p t t2 ends = (tree : Task) → program_at p.code t.task ≡ program_of tree →
    IsOver (scan_of p.code.us tree.body.items t.vars.items t.last.items t.got.items) t t2 ×
    (is_ended (program_of tree).finished t2.vars.items ≡ ends)

-- the turn of a task whose scan has left this
abbrev pub over_turn : Controller → ℕ → StTask → Bool → Run → Turn
over_turn p n t2 ends r = record {
  run = if ends then made p.config (an_end n) r else r;
  stand = stand_at t2 (not ends);
}

scanned-is : (p : Controller) (n : ℕ) (tree : Task) (t2 : StTask) (ends : Bool) (calls : List Asked)
    (r : Run) → is_ended (program_of tree).finished t2.vars.items ≡ ends →
    scanned (cell_of p) n tree
    (record { calls = calls; vars = t2.vars.items; last = t2.last.items; left = [] }) r ≡
    over_turn p n t2 ends r
scanned-is p n tree t2 ends calls r e = ap (λ b. over_turn p n t2 b r) e

over-by : (steps : ℕ) (p : Controller) (n : ℕ) (k k0 : KernelState) (t t2 t0 : StTask)
    (ends : Bool) (tree : Task) (drives : List DriveSim) → IsScanning p n k t k0 t0 →
    SaysOver p t t2 ends → slice_get p.program.tasks.items n ≡ Some tree →
    k.config.entries - length k.history < steps →
    scan_on steps (cell_of p) n tree (stand_at t0 true) t.got.items (run_at k drives (Ok tt)) ≡
    over_turn p n t2 ends (run_at k drives (Ok tt))
over-by zero p n k k0 t t2 t0 ends tree drives sc says there enough =
    absurd (omega (arith, enough))
over-by (suc steps) p n k k0 t t2 t0 ends tree drives sc says there enough =
    let both = says tree (ap (program_at p.code) sc.number ∙ code-of p n tree there) in
    let over : scan_of p.code.us tree.body.items t0.vars.items t0.last.items t.got.items ≡
    Over (record {
      calls = both.0.calls;
      vars = t2.vars.items;
      last = t2.last.items;
      left = [];
    }) =
    ap (λ v. scan_of p.code.us tree.body.items v.items t0.last.items t.got.items) (sym sc.vars)
    ∙ ap (λ l. scan_of p.code.us tree.body.items t.vars.items l.items t.got.items) (sym sc.last)
    ∙ both.0.over in
    over-made steps (cell_of p) n tree (stand_at t0 true) t.got.items (run_at k drives (Ok tt))
    (record { calls = both.0.calls; vars = t2.vars.items; last = t2.last.items; left = [] }) over
    ∙ scanned-is p n tree t2 ends both.0.calls (run_at k drives (Ok tt)) both.1

-- the whole scan is over so
pub over-whole : (p : Controller) (n : ℕ) (k k0 : KernelState) (t t2 t0 : StTask) (ends : Bool)
    (tree : Task) (drives : List DriveSim) → IsScanning p n k t k0 t0 → SaysOver p t t2 ends →
    slice_get p.program.tasks.items n ≡ Some tree →
    over_turn p n t2 ends (run_at k drives (Ok tt)) ≡
    scan (cell_of p) n tree (stand_at t0 true) (run_at k0 drives (Ok tt))
over-whole p n k k0 t t2 t0 ends tree drives sc says there =
    sym (over-by sc.steps p n k k0 t t2 t0 ends tree drives sc says there sc.enough)
    ∙ sc.so_far tree there drives

-- a task whose scan is over is between two scans
pub over-between : (p : Controller) (n : ℕ) (t t2 : StTask) (ends : Bool) → t.task ≡ n →
    Follows p.code t → SaysOver p t t2 ends → Follows p.code t2 → IsBetween p.code n t2
over-between p n t t2 ends number follows says follows2 =
    let tree = one-tree p n t number follows in
    let over = (says tree.0 (ap (program_at p.code) number ∙ code-of p n tree.0 tree.1)).0 in
    record {
      number = over.task ∙ number;
      follows = follows2;
      asked = over.asked;
      got = over.got;
    }

-- a scan that wasn't the last
pub goes-over : (p : Controller) (n : ℕ) (k k0 : KernelState) (t t2 t0 : StTask) →
    IsScanning p n k t k0 t0 → SaysOver p t t2 false → (tree : Task) →
    slice_get p.program.tasks.items n ≡ Some tree → (drives : List DriveSim) →
    HasScanned (scan (cell_of p) n tree (stand_at t0 true) (run_at k0 drives (Ok tt))) k drives
    (Ok true) t2
goes-over p n k k0 t t2 t0 sc says tree there drives =
    let whole = over-whole p n k k0 t t2 t0 false tree drives sc says there in
    (ap (λ (x : Turn). x.run) whole, ap (λ (x : Turn). x.stand) whole)

-- the last, with the task's end after it, for which there was room
pub ends-over : (p : Controller) (n : ℕ) (k k2 k0 : KernelState) (t t2 t0 : StTask) →
    IsScanning p n k t k0 t0 → SaysOver p t t2 true →
    ((drives : List DriveSim) → run_at k2 drives (Ok tt) ≡
    made k.config (an_end n) (run_at k drives (Ok tt))) → (tree : Task) →
    slice_get p.program.tasks.items n ≡ Some tree → (drives : List DriveSim) →
    HasScanned (scan (cell_of p) n tree (stand_at t0 true) (run_at k0 drives (Ok tt))) k2 drives
    (Ok false) t2
ends-over p n k k2 k0 t t2 t0 sc says end tree there drives =
    let whole = over-whole p n k k0 t t2 t0 true tree drives sc says there in (
      end drives ∙ ap (λ s. made s (an_end n) (run_at k drives (Ok tt))) sc.config
          ∙ ap (λ (x : Turn). x.run) whole,
      ap (λ (x : Turn). x.stand) whole,
    )

-- the last, for whose end there was no room
pub ends-full : (p : Controller) (n : ℕ) (k k2 k0 : KernelState) (t t2 t0 : StTask)
    (f : RunFault) → IsScanning p n k t k0 t0 → SaysOver p t t2 true →
    ((drives : List DriveSim) → run_at k2 drives (Err f) ≡
    made k.config (an_end n) (run_at k drives (Ok tt))) → (tree : Task) →
    slice_get p.program.tasks.items n ≡ Some tree → (drives : List DriveSim) →
    run_at k2 drives (Err f) ≡
    (scan (cell_of p) n tree (stand_at t0 true) (run_at k0 drives (Ok tt))).run
ends-full p n k k2 k0 t t2 t0 f sc says end tree there drives =
    end drives ∙ ap (λ s. made s (an_end n) (run_at k drives (Ok tt))) sc.config
    ∙ ap (λ (x : Turn). x.run) (over-whole p n k k0 t t2 t0 true tree drives sc says there)

-- ---- a call that ends the run

stops-by : (steps : ℕ) (p : Controller) (n : ℕ) (k k2 k0 : KernelState) (t t0 : StTask)
    (f : RunFault) (tree : Task) (drives : List DriveSim) → IsScanning p n k t k0 t0 →
    (h : HasStopped p k k2 t f) → slice_get p.program.tasks.items n ≡ Some tree →
    k.config.entries - length k.history < steps →
    (scan_on steps (cell_of p) n tree (stand_at t0 true) t.got.items (run_at k drives (Ok tt))).run ≡
    run_at k2 drives (Err f)
stops-by zero p n k k2 k0 t t0 f tree drives sc h there enough = absurd (omega (arith, enough))
stops-by (suc steps) p n k k2 k0 t t0 f tree drives sc h there enough =
    let r = run_at k drives (Ok tt) in
    let call : Asked = record { instance = h.instance; inputs = h.inputs } in
    let ask = asks-stopped p n k k2 t f sc.number h tree there in
    let waits = ap (λ v. scan_of p.code.us tree.body.items v.items t0.last.items t.got.items)
    (sym sc.vars)
    ∙ ap (λ l. scan_of p.code.us tree.body.items t.vars.items l.items t.got.items) (sym sc.last)
    ∙ ask.waits in
    let ended : run_at k2 drives (Err f) ≡ made p.config (a_call h.instance h.inputs) r =
    h.made drives ∙ ap (λ s. made s (a_call h.instance h.inputs) r) sc.config in
    ap (λ (x : Turn). x.run)
    (call-made steps (cell_of p) n tree (stand_at t0 true) t.got.items r ask.calls call waits
    ask.answered)
    ∙ scan-stays steps (cell_of p) n tree (stand_at t0 true) _
    (made p.config (a_call h.instance h.inputs) r) f (sym (ap (λ (x : Run). x.ending) ended))
    ∙ sym ended

pub stops : (p : Controller) (n : ℕ) (k k2 k0 : KernelState) (t t0 : StTask) (f : RunFault) →
    IsScanning p n k t k0 t0 → HasStopped p k k2 t f → (tree : Task) →
    slice_get p.program.tasks.items n ≡ Some tree → (drives : List DriveSim) →
    run_at k2 drives (Err f) ≡
    (scan (cell_of p) n tree (stand_at t0 true) (run_at k0 drives (Ok tt))).run
stops p n k k2 k0 t t0 f sc h tree there drives =
    sym (stops-by sc.steps p n k k2 k0 t t0 f tree drives sc h there sc.enough)
    ∙ ap (λ (x : Turn). x.run) (sc.so_far tree there drives)
