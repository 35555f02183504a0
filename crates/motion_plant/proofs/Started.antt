-- What was started, one by one.
-- for: run_plant
use Rattle.std.proofs.Common.{◌≡◌, ℕ, suc, ◌+◌, List, [], ◌∷◌, ◌++◌, length, map, Option, Some, refl, sym, ap, ◌∙◌, subst, arith, append_assoc, append-nil, length-append}
use Rattle.std.specs.Prelude.{slice_get, false}
use Rattle.std.specs.declared.snapshot.Snapshot.{Snapshot}
use Rattle.atomic_table.specs.Seated.{TableId}
use Rattle.plc_types.specs.declared.axis.AxisDef.{AxisDef}
use Rattle.drive_jobs.specs.DriveLinkState.{DriveLinkState}
use Rattle.drive_sim.specs.Sim.{DriveSim}
use Rattle.kernel_turn.specs.PermitState.{PermitState}
use Rattle.machine_drives.specs.Drives.{drive_at_opening, drives_at_opening}
use Rattle.motion_plant.specs.Driven.{IsDriven}
use Rattle.motion_plant.specs.Jobs.{IsSeat, job_lines, line_job, seat_job}
use Rattle.motion_plant.specs.Joined.{IsSeated}
use Rattle.motion_plant.specs.Lines.{IsInStep, IsNewLink, drive_of}
use Rattle.motion_plant.specs.Makers.{entries_by}
use Rattle.motion_plant.specs.Places.{Each}
use Rattle.motion_plant.specs.Ran.{DriveMeets, PlantMeets, PlantRan}
use Rattle.motion_plant.specs.TaskEnds.{TaskMeets}
use Rattle.motion_history.specs.Entries.{Entry}
use Rattle.motion_history.specs.Setup.{Setup}
use Rattle.motion_history.specs.declared.drives.DriveDef.{DriveDef}
use Rattle.motion_plant.specs.declared.plant_job.PlantJob.{PlantJob}
use Rattle.motion_plant.specs.declared.task_job.TaskJob.{TaskJob}
use Rattle.plc_program.specs.declared.program.Instruction.{Instruction}
use Rattle.setpoint_ring.specs.declared.logs.DriveLog.{DriveLog}
use Rattle.std.specs.Prelude.{slice_index_or}
use Rattle.motion_plant.proofs.Lists.{each_more, get_at, get_before, get_map, get_past, get_some, get_there, length_map, map_more, some_is}

pub started_more : {A J : Type 0} (f : A → J) (before jobs jobs' : List J) (xs xs' : List A)
    (x : A) → jobs' ≡ jobs ++ f x ∷ [] → jobs ≡ before ++ map f xs → xs' ≡ xs ++ x ∷ [] →
    jobs' ≡ before ++ map f xs'
started_more f before jobs jobs' xs xs' x new old more =
    new ∙ ap (λ js. js ++ f x ∷ []) old ∙ append_assoc before (map f xs) (f x ∷ []) ∙
    ap (λ js. before ++ js) (sym (map_more f xs (x ∷ []))) ∙ ap (λ ys. before ++ map f ys)
    (sym more)

-- one line more
pub line_more : (axes : List AxisDef) (defs : List DriveDef) (ls ls' : List DriveLinkState)
    (l : DriveLinkState) (a : AxisDef) (d : DriveDef) (i : ℕ) → Each (IsNewLink axes defs) ls →
    ls' ≡ ls ++ l ∷ [] → length ls ≡ i → slice_get axes i ≡ Some a → slice_get defs i ≡ Some d →
    l.job.drive ≡ drive_at_opening a d → (l.outs ≡ []) × (l.ins ≡ []) × (l.ended ≡ false) →
    Each (IsNewLink axes defs) ls'
line_more axes defs ls ls' l a d i each more len at at' drive new =
    subst (Each (IsNewLink axes defs)) (sym more) (each_more (IsNewLink axes defs) ls l each
    (subst (λ n. IsNewLink axes defs n l) (sym len) (record {
      axis = a;
      def = d;
      axis_at = at;
      def_at = at';
      drive = drive;
      outs = new.0;
      ins = new.1;
      ended = new.2;
    })))

-- one seat more
pub seat_more : {G : Type 0} (program : List (List Instruction)) (k k' : PermitState)
    (seats seats' : List (Snapshot (TaskJob G))) (z : Snapshot (TaskJob G)) (i : ℕ) →
    Each (λ n z. IsSeat program k n z.value) seats → seats' ≡ seats ++ z ∷ [] →
    IsSeat program k' i z.value → k' ≡ record k { out = i } → length seats ≡ i →
    Each (λ n z. IsSeat program k n z.value) seats'
seat_more program k k' seats seats' z i each more is same len =
    subst (Each (λ n z. IsSeat program k n z.value)) (sym more)
    (each_more (λ n z. IsSeat program k n z.value) seats z each
    (subst (λ m. IsSeat program k m z.value) (sym len) (record {
      program_is = is.program_is;
      run = is.run;
      task = is.task;
      table = is.table ∙ ap (λ (p : PermitState). p.table) same;
      config = is.config ∙ ap (λ (p : PermitState). p.config) same;
      stops = is.stops;
    })))

pub new_stand : (axes : List AxisDef) (defs : List DriveDef) (ls : List DriveLinkState) →
    Each (IsNewLink axes defs) ls → Each (IsInStep []) ls
new_stand axes defs ls each i l at = let n = each i l at in record {
  outs = n.outs;
  ins =
      ap length n.ins;
  goes_on = n.ended;
}

-- the drives of the lines are those of the axes
pub drives_are : (axes : List AxisDef) (defs : List DriveDef) (ls : List DriveLinkState) → length ls ≡
    length axes → length defs ≡ length axes → Each (IsNewLink axes defs) ls → map drive_of ls ≡
    drives_at_opening axes defs
drives_are [] [] [] a b each = refl
drives_are [] [] (l ∷ ls) a b each = absurd (omega arith)
drives_are [] (d ∷ defs) ls a b each = absurd (omega arith)
drives_are (x ∷ axes) [] ls a b each = absurd (omega arith)
drives_are (x ∷ axes) (d ∷ defs) [] a b each = absurd (omega arith)
drives_are (x ∷ axes) (d ∷ defs) (l ∷ ls) a b each =
    let n = each 0 l refl in
    let ex : n.axis ≡ x = some_is n.axis x (sym n.axis_at) in
    let ed : n.def ≡ d = some_is n.def d (sym n.def_at) in
    let head : drive_of l ≡ drive_at_opening x d = n.drive ∙
    (λ j. drive_at_opening (ex j) (ed j)) in
    let tail = drives_are axes defs ls (omega arith) (omega arith) (λ m k at.
    let q = each (suc m) k at in record {
      axis = q.axis;
      def = q.def;
      axis_at = q.axis_at;
      def_at =
          q.def_at;
      drive = q.drive;
      outs = q.outs;
      ins = q.ins;
      ended = q.ended;
    }) in
    λ j. head j ∷ tail j

-- what was started stands in its place
started_at : {A J : Type 0} (f : A → J) (jobs before : List J) (xs : List A) (more : List J)
    (base : ℕ) → jobs ≡ (before ++ map f xs) ++ more → base ≡ length before →
    Each (λ i x. slice_get jobs (base + i) ≡ Some (f x)) xs
started_at f jobs before xs more base is len i x at =
    let e : base + i ≡ length before + i = omega arith in
    ap (slice_get jobs) e
    ∙ ap (λ js. slice_get js (length before + i)) (is ∙ append_assoc before (map f xs) more)
    ∙ get_past before (map f xs ++ more) i
    ∙ get_before (map f xs) more i (get_some (map f xs) i (f x) (get_map f xs i x at))
    ∙ get_map f xs i x at

module _ {G : Type 0} where
  pub drives_started : (jobs before : List (Option (PlantJob G))) (lines : List DriveLinkState)
      (more : List (Option (PlantJob G))) (base : ℕ) → jobs ≡ (before ++ map line_job lines) ++
      more → base ≡ length before → Each (λ i l. slice_get jobs (base + i) ≡ Some (line_job l))
      lines
  drives_started jobs before lines more base is len = started_at line_job jobs before lines more
      base is len

  pub tasks_started : (jobs before : List (Option (PlantJob G))) (lines : List DriveLinkState)
      (seats : List (Snapshot (TaskJob G))) (base : ℕ) → jobs ≡ (before ++ map line_job lines) ++
      map seat_job seats → base ≡ length before →
      Each (λ i s. slice_get jobs (base + length lines + i) ≡ Some (seat_job s)) seats
  tasks_started jobs before lines seats base is len =
      started_at seat_job jobs (before ++ map line_job lines) seats [] (base + length lines)
      (is ∙ sym (append-nil _)) (let a = length-append before (map (line_job {G = G}) lines) in
      let b = length_map (line_job {G = G}) lines in omega arith)

  pub ran : (s : Setup) (k : PermitState) (program : List (List Instruction)) (axes : List AxisDef)
      (defs : List DriveDef) (lines : List DriveLinkState) (seats : List (Snapshot (TaskJob G)))
      (h : List Entry) (logs : List DriveLog) → PlantMeets s lines seats h logs → length seats ≡
      length program → Each (λ i z. IsSeat program k i z.value) seats → length lines ≡ length axes →
      length defs ≡ length axes → Each (IsNewLink axes defs) lines → length logs ≡ length lines →
      PlantRan s program (drives_at_opening axes defs) h logs
  ran s k program axes defs lines seats h logs m count seated width each new logged =
      let drives = drives_are axes defs lines width each new in
      record {
        legal = m.legal;
        motion = m.motion;
        tasks = λ t ls at.
            let lt = get_some program t ls at in
            let z = get_there seats t (omega arith) in
            let is = seated t z.0 z.1 in
            let same : job_lines z.0.value ≡ ls =
            (λ j. slice_index_or (is.program_is j) (is.run j) []) ∙
            some_is (slice_index_or program t []) ls (sym (get_at program t [] lt) ∙ at) in
            subst (λ xs. TaskMeets s xs t h) same (m.tasks t z.0 z.1);
        logged = logged ∙ sym (length_map drive_of lines) ∙ ap length drives;
        drives_meet = λ i d g at log.
            let r = m.drives i g log in
            let same : r.0.job.drive ≡ d = some_is r.0.job.drive d
            (sym (get_map drive_of lines i r.0 r.1) ∙ ap (λ xs. slice_get xs i) drives ∙ at) in
            subst (λ (e : DriveSim). DriveMeets e i h g) same r.2;
        driven = subst (λ ds. Each (λ n. IsDriven s ds) (entries_by s 0 h)) drives m.driven;
        in_time = m.in_time;
        ends = m.ends;
      }
