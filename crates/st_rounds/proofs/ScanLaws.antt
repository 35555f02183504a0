-- A scan, a step after another.
-- for: make_scan, tasks_make_their_scans
use Rattle.std.specs.Prelude.{◌≡◌, refl, ℕ, ℤ, zero, suc, ◌+◌, ◌-◌, ◌<◌, true, false, None, Some, Ok, Err, List, [], ◌∷◌, ◌++◌, length, map, slice_get, slice_index_or}
use Rattle.std.specs.List.{AllByRecursion}
use Rattle.std.proofs.Common.{◌∙◌, sym, ap, subst, arith}
use Rattle.std.proofs.lemmas.List.{length-map, length_push}
use Rattle.bench_run.specs.Going.{run_at}
use Rattle.bench_run.specs.Run.{Run, a_call, made}
use Rattle.bench_run.specs.declared.bench.RunFault.{RunFault}
use Rattle.drive_sim.specs.Sim.{DriveSim}
use Rattle.plc_types.specs.declared.inputs.Inputs.{Inputs}
use Rattle.plc_types.specs.declared.outputs.Outputs.{Outputs}
use Rattle.motion_history.specs.Calls.{IsCall}
use Rattle.motion_history.specs.Setup.{Setup}
use Rattle.motion_kernel.specs.Histories.{machine_after}
use Rattle.motion_kernel.specs.KernelState.{KernelState, state_of}
use Rattle.motion_kernel.specs.calls.Calls.{reply_of}
use Rattle.st_exec.specs.Compiled.{TaskProgram, no_program, program_at, program_of}
use Rattle.st_exec.specs.Following.{Follows, IsAnswered, IsAsking}
use Rattle.st_exec.specs.Laws.{AreCallsOf, IsCallOf}
use Rattle.st_exec.specs.Scan.{Asked, Over, Waits, Stand, scan_of}
use Rattle.st_exec.specs.declared.task.StTask.{StTask}
use Rattle.st_tree.specs.declared.program.Task.{Task}
use Rattle.st_rounds.proofs.MadeLaws.{goes}
use Rattle.st_rounds.specs.Cell.{Cell, TaskStand}
use Rattle.st_rounds.specs.Controllers.{cell_of}
use Rattle.st_rounds.specs.Playing.{IsBetween, stand_at}
use Rattle.st_rounds.specs.Ready.{AreReady, MakesCalls}
use Rattle.st_rounds.specs.Rounds.{Turn, called, made_by, reply_behind, scan, scan_on, scanned, with_call}
use Rattle.st_rounds.specs.declared.cell.Controller.{Controller}

-- the item after others
pub item-behind : {A : Type 0} (xs : List A) (x : A) → slice_get (xs ++ x ∷ []) (length xs) ≡ Some x
item-behind [] x = refl
item-behind (y ∷ ys) x = item-behind ys x

-- a scan that waits makes the call that it waits for
pub call-made : (steps : ℕ) (c : Cell) (n : ℕ) (t : Task) (d : TaskStand) (got : List Outputs)
    (r : Run) (calls : List Asked) (a : Asked) →
    scan_of c.cycle_us t.body.items d.vars d.last got ≡ Waits (calls ++ a ∷ []) →
    length calls ≡ length got →
    scan_on (suc steps) c n t d got r ≡
    scan_on steps c n t d (got ++ reply_behind c.setup r a ∷ []) (with_call c.setup a r)
unfolding scan_on
call-made steps c n t d got r calls a waits many =
    let there : slice_get (calls ++ a ∷ []) (length got) ≡ Some a =
    ap (slice_get (calls ++ a ∷ [])) (sym many) ∙ item-behind calls a in
    ap (made_by c n t (scan_on steps c n t d) d got r) waits
    ∙ ap (called c (scan_on steps c n t d) d got r) there

-- a scan that is over leaves what it leaves
pub over-made : (steps : ℕ) (c : Cell) (n : ℕ) (t : Task) (d : TaskStand) (got : List Outputs)
    (r : Run) (left : Stand) →
    scan_of c.cycle_us t.body.items d.vars d.last got ≡ Over left →
    scan_on (suc steps) c n t d got r ≡ scanned c n t left r
unfolding scan_on
over-made steps c n t d got r left over =
    ap (made_by c n t (scan_on steps c n t d) d got r) over

-- ---- the code of a scan

-- the tree of a task's number is that of its code
get-mapped : (ts : List Task) (n : ℕ) (t : Task) → slice_get ts n ≡ Some t →
    slice_index_or (map program_of ts) n no_program ≡ program_of t
get-mapped [] n t h = absurd (cc)
get-mapped (x ∷ ts) zero t h = ap program_of (let e : x ≡ t = cc in e)
get-mapped (x ∷ ts) (suc n) t h = get-mapped ts n t h

pub code-of : (p : Controller) (n : ℕ) (t : Task) → slice_get p.program.tasks.items n ≡ Some t →
    program_at p.code n ≡ program_of t
unfolding program_at
code-of p n t h =
    ap (λ cs. slice_index_or cs n no_program) p.compiled
    ∙ get-mapped p.program.tasks.items n t h

-- a task that has a code has a tree
there-of : {A : Type 0} (xs : List A) (n : ℕ) → n < length xs → (x : A) × (slice_get xs n ≡ Some x)
there-of [] n l = absurd (omega arith)
there-of (x ∷ xs) zero l = (x, refl)
there-of (x ∷ xs) (suc n) l = there-of xs n (omega arith)

pub tree-of : (p : Controller) (n : ℕ) → n < length p.code.tasks →
    (t : Task) × (slice_get p.program.tasks.items n ≡ Some t)
tree-of p n l =
    let same : length p.code.tasks ≡ length p.program.tasks.items =
    ap (λ (cs : List TaskProgram). length cs) p.compiled ∙ length-map p.program.tasks.items program_of in
    there-of p.program.tasks.items n (omega (arith, l, same))

-- what the loop of a scan keeps: the task has made the calls so far, and what is left of the scan
-- leads to the whole
pub record IsScanning (p : Controller) (n : ℕ) (k : KernelState) (t : StTask) (k0 : KernelState)
    (t0 : StTask) : Type 0 where
  pub config : k.config ≡ p.config
  pub runs : k.stopped ≡ false
  pub number : t.task ≡ n
  pub follows : Follows p.code t
  pub asked : t.asked ≡ None
  pub vars : t.vars ≡ t0.vars
  pub last : t.last ≡ t0.last
  pub steps : ℕ
  pub enough : k.config.entries - length k.history < steps
  pub so_far : (tree : Task) → slice_get p.program.tasks.items n ≡ Some tree →
      (drives : List DriveSim) →
      scan_on steps (cell_of p) n tree (stand_at t0 true) t.got.items (run_at k drives (Ok tt)) ≡
      scan (cell_of p) n tree (stand_at t0 true) (run_at k0 drives (Ok tt))

-- after a call there is an entry more, for which there was room
pub record IsOneMore (k k2 : KernelState) : Type 0 where
  pub config : k2.config ≡ k.config
  pub room : length k.history < k.config.entries
  pub more : length k2.history ≡ length k.history + 1

pub call-is-one-more : (k k2 : KernelState) (i : ℕ) (inputs : Inputs) → k2.config ≡ k.config →
    run_at k2 [] (Ok tt) ≡ made k.config (a_call i inputs) (run_at k [] (Ok tt)) → IsOneMore k k2
call-is-one-more k k2 i inputs config e =
    let on = goes k.config (a_call i inputs) (run_at k [] (Ok tt)) refl
    (sym (ap (λ (x : Run). x.ending) e)) in
    record {
      config = config;
      room = on.room;
      more = ap (λ (x : Run). length x.history) e
          ∙ ap (λ (x : Run). length x.history) on.is ∙ length_push k.history _;
    }

fewer-steps : (k k2 : KernelState) (steps : ℕ) → IsOneMore k k2 →
    k.config.entries - length k.history < suc steps →
    k2.config.entries - length k2.history < steps
fewer-steps k k2 steps one enough =
    let same : k2.config.entries ≡ k.config.entries = ap (λ (s : Setup). s.entries) one.config in
    let room = one.room in
    let more = one.more in omega (arith, same, room, more, enough)

-- what is left of a scan after a call leads to the same whole
so-far : (steps : ℕ) (c : Cell) (n : ℕ) (t : Task) (d : TaskStand) (got got2 : List Outputs)
    (r r2 : Run) (whole : Turn) (calls : List Asked) (a : Asked) →
    scan_of c.cycle_us t.body.items d.vars d.last got ≡ Waits (calls ++ a ∷ []) →
    length calls ≡ length got → r2 ≡ with_call c.setup a r →
    got2 ≡ got ++ reply_behind c.setup r a ∷ [] → scan_on (suc steps) c n t d got r ≡ whole →
    scan_on steps c n t d got2 r2 ≡ whole
so-far steps c n t d got got2 r r2 whole calls a waits many e g h =
    ap (λ x. scan_on steps c n t d x r2) g
    ∙ ap (scan_on steps c n t d (got ++ reply_behind c.setup r a ∷ [])) e
    ∙ sym (call-made steps c n t d got r calls a waits many) ∙ h

-- a task asks for a call by each tree of its code
abbrev pub AsksBy : Controller → StTask → ℕ → Inputs → StTask → Type 0
AsksBy p t instance inputs asking = (tree : Task) → program_at p.code t.task ≡ program_of tree →
    IsAsking (scan_of p.code.us tree.body.items t.vars.items t.last.items t.got.items) t
    (record { instance = instance; inputs = inputs }) asking

-- a call was made, and the task has its reply
pub record HasAsked (p : Controller) (k k2 : KernelState) (t t2 : StTask) : Type 0 where
  pub instance : ℕ
  pub inputs : Inputs
  pub reply : Outputs
  pub asking : StTask
  pub says : AsksBy p t instance inputs asking
  pub config : k2.config ≡ k.config
  pub runs : k2.stopped ≡ false
  pub made : (drives : List DriveSim) → run_at k2 drives (Ok tt) ≡
      made k.config (a_call instance inputs) (run_at k drives (Ok tt))
  pub replied : reply ≡ reply_of k.config (state_of k) instance inputs
  pub answered : IsAnswered reply asking t2
  pub follows : Follows p.code t2

-- a call ended the run
pub record HasStopped (p : Controller) (k k2 : KernelState) (t : StTask) (f : RunFault) : Type 0 where
  pub instance : ℕ
  pub inputs : Inputs
  pub asking : StTask
  pub says : AsksBy p t instance inputs asking
  pub made : (drives : List DriveSim) → run_at k2 drives (Err f) ≡
      made k.config (a_call instance inputs) (run_at k drives (Ok tt))

pub one-tree : (p : Controller) (n : ℕ) (t : StTask) → t.task ≡ n → Follows p.code t →
    (tree : Task) × (slice_get p.program.tasks.items n ≡ Some tree)
one-tree p n t number follows =
    tree-of p n (subst (λ m. m < length p.code.tasks) number follows.there)

-- what the task asks by its tree
asks-by : (p : Controller) (n : ℕ) (k k2 : KernelState) (t t2 : StTask) → t.task ≡ n →
    (h : HasAsked p k k2 t t2) → (tree : Task) → slice_get p.program.tasks.items n ≡ Some tree →
    IsAsking (scan_of p.code.us tree.body.items t.vars.items t.last.items t.got.items) t
    (record { instance = h.instance; inputs = h.inputs }) h.asking
asks-by p n k k2 t t2 number h tree there =
    h.says tree (ap (program_at p.code) number ∙ code-of p n tree there)

pub asks-stopped : (p : Controller) (n : ℕ) (k k2 : KernelState) (t : StTask) (f : RunFault) →
    t.task ≡ n → (h : HasStopped p k k2 t f) → (tree : Task) →
    slice_get p.program.tasks.items n ≡ Some tree →
    IsAsking (scan_of p.code.us tree.body.items t.vars.items t.last.items t.got.items) t
    (record { instance = h.instance; inputs = h.inputs }) h.asking
asks-stopped p n k k2 t f number h tree there =
    h.says tree (ap (program_at p.code) number ∙ code-of p n tree there)

-- the reply is the machine's, after whichever drives
same-reply : (p : Controller) (k : KernelState) (drives : List DriveSim) (instance : ℕ)
    (inputs : Inputs) (reply : Outputs) → k.config ≡ p.config →
    reply ≡ reply_of k.config (state_of k) instance inputs →
    reply ≡ reply_behind p.config (run_at k drives (Ok tt))
    (record { instance = instance; inputs = inputs })
same-reply p k drives instance inputs reply config e =
    e ∙ ap (λ s. reply_of s (machine_after s k.history) instance inputs) config

-- after a call and its reply the scan goes on
goes-on-by : (steps : ℕ) (p : Controller) (n : ℕ) (k k2 k0 : KernelState) (t t2 t0 : StTask) →
    (sc : IsScanning p n k t k0 t0) → (h : HasAsked p k k2 t t2) →
    k.config.entries - length k.history < steps →
    ((tree : Task) → slice_get p.program.tasks.items n ≡ Some tree → (drives : List DriveSim) →
    scan_on steps (cell_of p) n tree (stand_at t0 true) t.got.items (run_at k drives (Ok tt)) ≡
    scan (cell_of p) n tree (stand_at t0 true) (run_at k0 drives (Ok tt))) →
    IsScanning p n k2 t2 k0 t0
goes-on-by zero p n k k2 k0 t t2 t0 sc h enough far = absurd (omega (arith, enough))
goes-on-by (suc steps) p n k k2 k0 t t2 t0 sc h enough far =
    let tree = one-tree p n t sc.number sc.follows in
    let ask = asks-by p n k k2 t t2 sc.number h tree.0 tree.1 in
    record {
      config = h.config ∙ sc.config;
      runs = h.runs;
      number = h.answered.task ∙ ask.same.0 ∙ sc.number;
      follows = h.follows;
      asked = h.answered.asked;
      vars = h.answered.vars ∙ ask.same.1 ∙ sc.vars;
      last = h.answered.last ∙ ask.same.2 ∙ sc.last;
      steps = steps;
      enough = fewer-steps k k2 steps
          (call-is-one-more k k2 h.instance h.inputs h.config (h.made [])) enough;
      so_far = λ other there drives. further other there drives;
    }
  where
    further : (tree : Task) → slice_get p.program.tasks.items n ≡ Some tree →
        (drives : List DriveSim) →
        scan_on steps (cell_of p) n tree (stand_at t0 true) t2.got.items (run_at k2 drives (Ok tt)) ≡
        scan (cell_of p) n tree (stand_at t0 true) (run_at k0 drives (Ok tt))
    further tree there drives =
        let ask = asks-by p n k k2 t t2 sc.number h tree there in
        let call : Asked = record { instance = h.instance; inputs = h.inputs } in
        let waits : scan_of p.code.us tree.body.items t0.vars.items t0.last.items t.got.items ≡
        Waits (ask.calls ++ call ∷ []) =
        ap (λ v. scan_of p.code.us tree.body.items v.items t0.last.items t.got.items) (sym sc.vars)
        ∙ ap (λ l. scan_of p.code.us tree.body.items t.vars.items l.items t.got.items) (sym sc.last)
        ∙ ask.waits in
        so-far steps (cell_of p) n tree (stand_at t0 true) t.got.items t2.got.items
        (run_at k drives (Ok tt)) (run_at k2 drives (Ok tt)) _ ask.calls call waits ask.answered
        (h.made drives
        ∙ ap (λ s. made s (a_call h.instance h.inputs) (run_at k drives (Ok tt))) sc.config)
        (h.answered.got
        ∙ ap (λ (o : Outputs). h.asking.got.items ++ o ∷ [])
        (same-reply p k drives h.instance h.inputs h.reply sc.config h.replied)
        ∙ ap (λ g. g.items ++ reply_behind p.config (run_at k drives (Ok tt)) call ∷ []) ask.same.3)
        (far tree there drives)

pub goes-on : (p : Controller) (n : ℕ) (k k2 k0 : KernelState) (t t2 t0 : StTask) →
    IsScanning p n k t k0 t0 → HasAsked p k k2 t t2 → IsScanning p n k2 t2 k0 t0
goes-on p n k k2 k0 t t2 t0 sc h = goes-on-by sc.steps p n k k2 k0 t t2 t0 sc h sc.enough sc.so_far

-- the last of some calls
last-of : (s : Setup) (n : ℕ) (calls : List Asked) (a : Asked) →
    AllByRecursion (IsCallOf s n) (calls ++ a ∷ []) → IsCallOf s n a
last-of s n [] a h = h.0
last-of s n (b ∷ calls) a h = last-of s n calls a h.1

-- the call that a task waits for is one of those of its scan
pub waiting-is-call : (s : Setup) (us n : ℕ) (t : Task) (vars : List ℤ) (last got : List Outputs)
    (calls : List Asked) (a : Asked) → MakesCalls s us n t →
    scan_of us t.body.items vars last got ≡ Waits (calls ++ a ∷ []) → IsCallOf s n a
waiting-is-call s us n t vars last got calls a makes waits =
    last-of s n calls a (subst (AreCallsOf s n) waits (makes vars last got))

-- the machine takes the call that the task asks for
pub takes-call : (p : Controller) (n : ℕ) (t asking : StTask) (instance : ℕ) (inputs : Inputs) →
    AreReady p.config p.code.us p.program.tasks.items → t.task ≡ n → Follows p.code t →
    AsksBy p t instance inputs asking → IsCall p.config instance inputs
takes-call p n t asking instance inputs ready number follows says =
    let tree = one-tree p n t number follows in
    let ask = says tree.0 (ap (program_at p.code) number ∙ code-of p n tree.0 tree.1) in
    (waiting-is-call p.config p.code.us n tree.0 t.vars.items t.last.items t.got.items ask.calls
    (record { instance = instance; inputs = inputs }) (ready.calls n tree.0 tree.1) ask.waits).is

-- it takes it as the kernel's configuration has it
pub kernel-takes-call : (p : Controller) (n : ℕ) (k : KernelState) (t asking : StTask)
    (instance : ℕ) (inputs : Inputs) → AreReady p.config p.code.us p.program.tasks.items →
    k.config ≡ p.config → t.task ≡ n → Follows p.code t → AsksBy p t instance inputs asking →
    IsCall k.config instance inputs
kernel-takes-call p n k t asking instance inputs ready config number follows says =
    subst (λ s. IsCall s instance inputs) (sym config)
    (takes-call p n t asking instance inputs ready number follows says)

-- a scan begins
pub scanning-begins : (p : Controller) (n : ℕ) (k : KernelState) (t : StTask) → k.config ≡ p.config →
    k.stopped ≡ false → IsBetween p.code n t → IsScanning p n k t k t
scanning-begins p n k t config runs between =
    let same : k.config.entries ≡ p.config.entries = ap (λ (s : Setup). s.entries) config in
    record {
      config = config;
      runs = runs;
      number = between.number;
      follows = between.follows;
      asked = between.asked;
      vars = refl;
      last = refl;
      steps = p.config.entries + 1;
      enough = omega (arith, same);
      so_far = λ tree there drives. ap (λ got. scan_on (p.config.entries + 1) (cell_of p) n tree
          (stand_at t true) got (run_at k drives (Ok tt))) between.got;
    }

-- the room left is less after a call
pub less-room : (k k2 : KernelState) (i : ℕ) (inputs : Inputs) → k2.config ≡ k.config →
    run_at k2 [] (Ok tt) ≡ made k.config (a_call i inputs) (run_at k [] (Ok tt)) →
    k2.config.entries - length k2.history < k.config.entries - length k.history
less-room k k2 i inputs config e =
    let one = call-is-one-more k k2 i inputs config e in
    let same : k2.config.entries ≡ k.config.entries = ap (λ (s : Setup). s.entries) config in
    let room = one.room in
    let more = one.more in omega (arith, same, room, more)
