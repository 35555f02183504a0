-- The joins and the close give the whole.
-- for: run_plant
use Rattle.std.proofs.Common.{◌≡◌, ℕ, suc, ◌+◌, ◌<◌, ◌≤◌, List, length, map, take, Option, Some, Bool, true, false, refl, sym, ap, ◌∙◌, subst, arith, length-append, inl, inr}
use Rattle.std.specs.Prelude.{slice_get, ◌||◌}
use mathlib.Core.List.{IsPrefix}
use Rattle.std.specs.declared.snapshot.Snapshot.{Snapshot}
use Rattle.plc_types.specs.declared.drive.DriveIn.{DriveIn}
use Rattle.drive_jobs.specs.Log.{IsLogOf}
use Rattle.drive_jobs.specs.DriveLinkState.{DriveLinkState}
use Rattle.drive_jobs.specs.declared.drive_job.DriveJob.{DriveJob}
use Rattle.drive_sim.specs.Runs.{answers_of, drive_after}
use Rattle.drive_sim.specs.Steps.{answer_of}
use Rattle.kernel_turn.specs.PermitState.{PermitState}
use Rattle.kernel_turn.specs.Turns.{IsClosed}
use Rattle.machine_drives.specs.Drives.{outputs_in}
use Rattle.motion_plant.specs.Cycling.{EndsBy}
use Rattle.motion_plant.specs.Driven.{IsAlive, IsDriven, cycle_with}
use Rattle.motion_plant.specs.Jobs.{job_lines, line_job}
use Rattle.motion_plant.specs.Joined.{HasMade, IsJoinedUpTo, IsSeated, IsStopped}
use Rattle.motion_plant.specs.Lines.{IsLogAt, drive_of, ended_line, entries_of, job_of}
use Rattle.motion_plant.specs.Makers.{Logged, entries_by, own_entries, own_entries_by}
use Rattle.motion_plant.specs.Places.{Each}
use Rattle.motion_plant.specs.Ran.{DriveMeets, EndsSo, PlantMeets}
use Rattle.motion_plant.specs.TaskEnds.{TaskMade}
use Rattle.motion_plant.proofs.JoinedEntries.{all_own}
use Rattle.motion_history.specs.Entries.{Entry}
use Rattle.motion_history.specs.Setup.{Setup}
use Rattle.motion_kernel.specs.Histories.{IsLegal}
use Rattle.motion_kernel.specs.KernelState.{KernelState}
use Rattle.motion_laws.specs.Headline.{KeepsHeadline}
use Rattle.atomic_table.specs.Seated.{TableId}
use Rattle.motion_plant.specs.declared.plant_job.PlantJob.{PlantJob}
use Rattle.motion_plant.specs.declared.plant_job.PlantJob.TheVariants as jobs_of
use Rattle.motion_plant.specs.declared.cycles.Ending.{Ending}
use Rattle.motion_plant.specs.declared.cycles.Ending.TheVariants as endings
use Rattle.motion_plant.specs.declared.task_job.TaskJob.{TaskJob}
use Rattle.setpoint_ring.specs.declared.logs.DriveLog.{DriveLog}
use Rattle.motion_plant.proofs.JoinedPasses.{all_in, entries_trans}
use Rattle.motion_plant.proofs.Lists.{length_map, get_before, get_map, get_map_of, get_some, get_there, some_is}
use Rattle.motion_plant.proofs.InStep.{outs_length}
use Rattle.motion_plant.proofs.TurnLaws.{cycles_begin}
use Rattle.motion_plant.proofs.WholeRun.{all_outputs, answer_at, live_none, outputs_before, outputs_count}

or_right : (a b : Bool) → ((a || b) ≡ true → ⊥) → b ≡ false
or_right a true never = absurd (never (right a))
  where
    right : (a : Bool) → (a || true) ≡ true
    right true = refl
    right false = refl
or_right a false never = refl

begin_length : (xs ys : List Entry) → IsPrefix xs ys → length xs ≤ length ys
begin_length xs ys p = let e = ap length p.1 in let l = length-append xs p.0 in omega arith

module _ (first k1 k2 : PermitState) (m : ℕ) (lines lines1 lines2 : List DriveLinkState) (ending : Ending)
    (logs : List DriveLog) (f : KernelState) (stop : IsStopped first lines k1 lines1 ending)
    (end : lines2 ≡ map ended_line lines1) (log : Each (IsLogAt lines2) logs) (count : length logs ≡
    length lines1) (join : IsJoinedUpTo (own_entries k1.own k1.seen) k1 m k2)
    (closed : IsClosed k2 f) where
  abbrev h : List Entry
  h = f.history

  c1 : k1.config ≡ first.config
  c1 = ap (λ (p : PermitState). p.config) stop.kept

  config : f.config ≡ first.config
  config = closed.config ∙ ap (λ (p : PermitState). p.config) join.kept ∙ c1

  all_is_made : (t : ℕ) → entries_by first.config t h ≡ own_entries_by k1.config t k2.own k2.seen
  all_is_made t =
      all_own first.config t k2.own k2.seen h join.owns.below closed.begins
      (all_in k2.own h closed.tickets)
      ∙ ap (λ s. own_entries_by s t k2.own k2.seen) (sym c1)

  cycles : entries_by first.config 0 h ≡ own_entries k1.own k1.seen
  cycles = all_is_made 0 ∙ join.cycles

  cycles_are : Each (λ n (c : Logged). (ins : List DriveIn) ×
      (c.entry ≡ cycle_with first.config c.before ins)) (entries_by first.config 0 h)
  cycles_are n c at = let e = stop.cycles n c (ap (λ cs. slice_get cs n) (sym cycles) ∙ at) in
      (e.ins, e.entry_is)

  outs_are : (i : ℕ) (l : DriveLinkState) → slice_get lines1 i ≡ Some l → l.outs ≡ outputs_in i h
  outs_are i l at = (stop.columns i l at).outs ∙ ap (λ cs. outputs_in i (entries_of cs))
      (sym cycles) ∙ all_outputs first.config i h

  -- the line in this place at first
  same_line : (i : ℕ) (l1 : DriveLinkState) → slice_get lines1 i ≡ Some l1 → (l : DriveLinkState) ×
      (slice_get lines i ≡ Some l) × (l.job ≡ l1.job)
  same_line i l1 at = get_map_of job_of lines i l1.job (ap (λ xs. slice_get xs i) (sym stop.jobs) ∙
      get_map job_of lines1 i l1 at)

  line_now : (i : ℕ) (l : DriveLinkState) → slice_get lines i ≡ Some l → (l1 : DriveLinkState) ×
      (slice_get lines1 i ≡ Some l1) × (l1.job ≡ l.job)
  line_now i l at = get_map_of job_of lines1 i l.job (ap (λ xs. slice_get xs i) stop.jobs ∙
      get_map job_of lines i l at)

  log_at : (i : ℕ) (g : DriveLog) → slice_get logs i ≡ Some g → (l1 : DriveLinkState) ×
      (slice_get lines1 i ≡ Some l1) × IsLogOf l1.job.drive l1.outs l1.ins g
  log_at i g at =
      let r = log i g at in
      let s = get_map_of ended_line lines1 i r.0 (ap (λ ls. slice_get ls i) (sym end) ∙ r.1) in
      (s.0, s.1, subst (λ (z : DriveLinkState). IsLogOf z.job.drive z.outs z.ins g) (sym s.2) r.2)

  drives : Each (λ i g. (l : DriveLinkState) × (slice_get lines i ≡ Some l) ×
      DriveMeets l.job.drive i h g) logs
  drives i g at =
      let r = log_at i g at in
      let l = same_line i r.0 r.1 in
      let o = outs_are i r.0 r.1 in (
        l.0,
        l.1,
        record {
          took = r.2.took ∙ o;
          taken = r.2.taken ∙ ap length o ∙ outputs_count i h;
          sent = r.2.sent ∙ ap suc (ap length o ∙ outputs_count i h);
          last = r.2.last ∙ (λ j. answer_of (drive_after (sym l.2 j).drive (o j)));
        },
      )

  lines_length : length lines1 ≡ length (map drive_of lines)
  lines_length = sym (length_map job_of lines1) ∙ ap length stop.jobs ∙ length_map job_of lines ∙
      sym (length_map drive_of lines)

  driven : Each (λ n. IsDriven first.config (map drive_of lines)) (entries_by first.config 0 h)
  driven n c at =
      let there = ap (λ cs. slice_get cs n) (sym cycles) ∙ at in
      let cy = stop.cycles n c there in
      record {
        quiet = cy.quiet;
        ins = cy.ins;
        entry_is = cy.entry_is;
        width = cy.width ∙ lines_length;
        each = λ i d at_d.
            let a = get_map_of drive_of lines i d at_d in
            let b = line_now i a.0 a.1 in
            let lt = get_some lines1 i b.0 b.1 in
            let g = get_there logs i (omega arith) in
            let r = log_at i g.0 g.1 in
            let one : r.0 ≡ b.0 = some_is r.0 b.0 (sym r.1 ∙ b.1) in
            let answers : IsPrefix b.0.ins (answers_of b.0.job.drive b.0.outs) =
            subst (λ (z : DriveLinkState). IsPrefix z.ins (answers_of z.job.drive z.outs)) one
            r.2.answers in
            let col = stop.columns i b.0 b.1 in
            let few = col.ins in
            let less = get_some (own_entries k1.own k1.seen) n c there in
            let outs = ap length col.outs ∙ outs_length first.config lines1 i
            (own_entries k1.own k1.seen) stop.cycles in
            let before = outputs_before first.config i n h c cycles_are at in
            let d_is : b.0.job.drive ≡ d = ap (λ (j : DriveJob). j.drive) b.2 ∙ a.2 in
            sym (cy.taken i b.0 b.1)
            ∙ sym (get_before b.0.ins answers.0 n (omega arith))
            ∙ ap (λ xs. slice_get xs n) answers.1
            ∙ answer_at b.0.job.drive b.0.outs n (omega arith)
            ∙ (λ j. Some (answer_of (drive_after (d_is j) ((ap (take n) (outs_are i b.0 b.1) ∙
            sym before) j))));
      }

  in_time : Each (λ n c. suc n < length (entries_by first.config 0 h) → IsAlive first.config c)
      (entries_by first.config 0 h)
  in_time = subst (λ cs. Each (λ n c. suc n < length cs → IsAlive first.config c) cs)
      (sym cycles) stop.alive

  ends : IsLegal f.config f.history → first.made_stop ≡ false → EndsSo first.config h
  ends legal none = go ending stop.ends stop.stops
    where
      pre : IsPrefix k1.seen h
      pre = entries_trans k1.seen k2.seen h join.begins closed.begins

      go : (e : Ending) → EndsBy first.config k1 e →
          (e ≡ endings.Full → k1.made_stop ≡ first.made_stop) → EndsSo first.config h
      go endings.Done x y = inl (live_none first.config k1.seen h pre x)
      go endings.Over x y =
          let a = cycles_begin k1.seen h pre in
          let b = legal.cycles in
          let c = ap (λ (s : Setup). s.cycles) config in
          inr (inl (omega arith))
      go endings.Full x y =
          let made : k2.made_stop ≡ false = join.stops ∙ y refl ∙ none in
          let met : k2.met_stop ≡ false = or_right f.stopped k2.met_stop
          (λ t. let on = closed.stop t in cc) in
          let a = x (join.met met) in
          let l = begin_length k1.seen h pre in
          let b = legal.entries in
          let c = ap (λ (s : Setup). s.entries) config in
          inr (inr (omega arith))

  pub meets : {G : Type 0} (seats : List (Snapshot (TaskJob G))) →
      Each (λ i z. HasMade (job_lines z.value) k1.config i k2) seats → IsLegal f.config f.history →
      KeepsHeadline f.config f.history → first.made_stop ≡ false →
      PlantMeets first.config lines seats f.history logs
  meets seats tasks legal motion none = record {
    legal = subst (λ (s : Setup). IsLegal s h) config legal;
    motion = subst (λ (s : Setup). KeepsHeadline s h) config motion;
    tasks = λ i z at. let t = tasks i z at in (
      t.0,
      subst (λ made. TaskMade (job_lines z.value) i t.0 made) (sym (all_is_made (suc i)))
          t.1,
    );
    drives = drives;
    driven = driven;
    in_time = in_time;
    ends = ends legal none;
  }

-- each ended line's job is where it was started
pub still_started : {G : Type 0} (jobs : List (Option (PlantJob G))) (base : ℕ)
    (lines lines1 lines2 : List DriveLinkState) → Each (λ i l. slice_get jobs (base + i) ≡
    Some (line_job l)) lines → map job_of lines1 ≡ map job_of lines →
    lines2 ≡ map ended_line lines1 → Each (λ i l. slice_get jobs (base + i) ≡ Some (line_job l))
    lines2
still_started jobs base lines lines1 lines2 started same end n x at =
    let r = get_map_of ended_line lines1 n x (ap (λ ls. slice_get ls n) (sym end) ∙ at) in
    let l = get_map_of job_of lines n r.0.job (ap (λ xs. slice_get xs n) (sym same) ∙
    get_map job_of lines1 n r.0 r.1) in
    started n l.0 l.1 ∙ ap (λ (j : DriveJob). Some (Some (jobs_of.Drive j))) (l.2 ∙ ap job_of r.2)

pub seats_still : {G : Type 0} (table : TableId) (s t : Setup)
    (seats : List (Snapshot (TaskJob G))) → s ≡ t → Each (IsSeated table s) seats →
    Each (IsSeated table t) seats
seats_still table s t seats e each = subst (λ (c : Setup). Each (IsSeated table c) seats) e each
