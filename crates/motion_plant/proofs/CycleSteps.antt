-- A step of the loop of the cycles, and where it begins.
-- for: run_plant
use Rattle.std.proofs.Common.{◌≡◌, ℕ, zero, suc, ◌<◌, ◌≤◌, List, [], ◌∷◌, ◌++◌, length, map, refl, sym, ap, ◌∙◌, subst, arith}
use Rattle.std.specs.Prelude.{slice_get}
use Rattle.plc_types.specs.declared.drive.DriveIn.{DriveIn}
use Rattle.plc_types.specs.declared.drive.DriveOut.{DriveOut}
use Rattle.drive_jobs.specs.DriveLinkState.{DriveLinkState}
use Rattle.kernel_turn.specs.PermitState.{PermitState}
use Rattle.machine_drives.specs.Drives.{outputs_in}
use Rattle.motion_plant.specs.Calls.{fixed_part}
use Rattle.motion_plant.specs.Cycling.{Cycled, EndsBy, IsCycle, IsCycled, IsCycling, MadeCycle}
use Rattle.motion_plant.specs.Driven.{IsAlive, cycle_with}
use Rattle.motion_plant.specs.Lines.{HasColumn, IsInStep, entries_of, job_of, with_answer, with_output}
use Rattle.motion_plant.specs.Makers.{IsUpTo, Logged, Owns, own_entries}
use Rattle.motion_plant.specs.Places.{Each, zip_with}
use Rattle.motion_history.specs.Entries.{cycles_of}
use Rattle.motion_kernel.specs.Tasks.{live_tasks}
use Rattle.motion_plant.specs.declared.cycles.Ending.{Ending}
use Rattle.motion_plant.specs.declared.cycles.Step.TheVariants as steps
use Rattle.motion_plant.proofs.LoggedCalls.{entries_first, owns_first}
use Rattle.motion_plant.proofs.Lists.{each_more, get_before, snoc_length}
use Rattle.motion_plant.proofs.Zips.{zip_get, zip_length}
use Rattle.motion_plant.proofs.InStep.{Taken, grown_in, grown_out, in_jobs, out_jobs, out_outs, out_ins, out_ended, outs_more, taken_each}

module _ (first : PermitState) (ls0 ls ls1 : List DriveLinkState) (made : ℕ) (k k' : PermitState)
    (xs : List DriveIn) (c : IsCycling first ls0 made k ls) (lx : length xs ≡ length ls)
    (is1 : ls1 ≡ zip_with with_answer ls xs) (same : fixed_part k' ≡ fixed_part k) where
  n1 : length ls1 ≡ length ls
  n1 = ap length is1 ∙ zip_length with_answer ls xs lx

  taken : Each (Taken (own_entries k.own k.seen) xs) ls1
  taken = taken_each (own_entries k.own k.seen) xs ls ls1 c.stand is1

  cycles1 : Each (IsCycle first.config ls1) (own_entries k.own k.seen)
  cycles1 = grown_in first.config (own_entries k.own k.seen) xs ls ls1 c.stand c.cycles lx is1

  -- the cycles are over where no cycle was made
  pub cycled_none : (ending : Ending) → Owns (IsUpTo first.config 0) k'.own k'.seen →
      own_entries k'.own k'.seen ≡ own_entries k.own k.seen → EndsBy first.config k' ending →
      IsCycled first ls0 k' ls1 ending
  cycled_none ending owns none ends = record {
    fixed = same ∙ c.fixed;
    owns = owns;
    columns = subst (λ cs. Each (HasColumn cs) ls1) (sym none) (λ i l at. let t = taken i l at in
        let n = t.ins in record { outs = t.outs; ins = omega arith });
    cycles = subst (λ cs. Each (IsCycle first.config ls1) cs) (sym none) cycles1;
    alive = subst (λ cs. Each (λ n d. suc n < length cs → IsAlive first.config d) cs) (sym none)
        (λ n d at lt. c.alive n d at);
    jobs = in_jobs ls ls1 xs lx is1 ∙ c.jobs;
    width = n1 ∙ c.width;
    ends = ends;
  }

  module _ (ls2 : List DriveLinkState) (ys : List DriveOut) (live : ℕ) (ly : length ys ≡ length ls)
      (is2 : ls2 ≡ zip_with with_output ls1 ys) (owns : Owns (IsUpTo first.config 0) k'.own k'.seen)
      (m : MadeCycle first.config xs ys live k k') where
    ly1 : length ys ≡ length ls1
    ly1 = ly ∙ sym n1

    n2 : length ls2 ≡ length ls1
    n2 = ap length is2 ∙ zip_length with_output ls1 ys ly1

    abbrev entry : Logged
    entry = record { before = m.before; entry = cycle_with first.config m.before xs }

    len : length (own_entries k'.own k'.seen) ≡ suc (length (own_entries k.own k.seen))
    len = ap length m.made ∙ snoc_length (own_entries k.own k.seen) entry

    this_cycle : IsCycle first.config ls1 (length (own_entries k.own k.seen)) entry
    this_cycle = record {
      ins = xs;
      entry_is = refl;
      width = lx ∙ sym n1;
      quiet = m.quiet;
      taken = λ i l at. (taken i l at).here;
    }

    cycles2 : Each (IsCycle first.config ls2) (own_entries k'.own k'.seen)
    cycles2 = subst (λ cs. Each (IsCycle first.config ls2) cs) (sym m.made)
        (grown_out first.config _ ys ls1 ls2 (each_more (IsCycle first.config ls1)
        (own_entries k.own k.seen) entry cycles1 this_cycle) ly1 is2)

    stand2 : Each (IsInStep (own_entries k'.own k'.seen)) ls2
    stand2 i z at =
        let r = zip_get with_output ls1 ys i z (ap (λ l. slice_get l i) (sym is2) ∙ at) in
        let t = taken i r.0 r.2 in
        subst (IsInStep (own_entries k'.own k'.seen) i) r.4 (record {
          outs = out_outs r.0 r.1 ∙ ap (λ l. l ++ r.1 ∷ []) t.outs ∙
              sym (ap (λ cs. outputs_in i (entries_of cs)) m.made ∙ outs_more first.config i
              (own_entries k.own k.seen) m.before xs ys r.1 m.outs_are r.3);
          ins = ap length (out_ins r.0 r.1) ∙ t.ins ∙ sym len;
          goes_on = out_ended r.0 r.1 ∙ t.goes_on;
        })

    jobs2 : map job_of ls2 ≡ map job_of ls0
    jobs2 = out_jobs ls1 ls2 ys ly1 is2 ∙ in_jobs ls ls1 xs lx is1 ∙ c.jobs

    few2 : suc made ≤ cycles_of k'.seen
    few2 = let a = c.few in let b = m.more in omega arith

    live2 : live ≡ live_tasks first.config (m.before ++ entry.entry ∷ [])
    live2 = m.live_is ∙ ap (live_tasks first.config) m.seen

    pub cycled_made : Cycled first ls0 made k' ls2 (steps.Made live)
    cycled_made = go live live2 (m.live_is)
      where
        most : suc made ≤ first.config.cycles
        most = let a = few2 in let b = m.few in omega arith

        go : (n : ℕ) → n ≡ live_tasks first.config (m.before ++ entry.entry ∷ []) →
            n ≡ live_tasks first.config k'.seen → Cycled first ls0 made k' ls2 (steps.Made n)
        go zero here end = (
          record {
            fixed = same ∙ c.fixed;
            owns = owns;
            columns = λ i l at. let t = stand2 i l at in let n = t.ins in
                record { outs = t.outs; ins = omega arith };
            cycles = cycles2;
            alive = λ n d at lt. c.alive n d
                (sym (get_before (own_entries k.own k.seen) (entry ∷ []) n (omega (arith, len))) ∙
                ap (λ cs. slice_get cs n) (sym m.made) ∙ at);
            jobs = jobs2;
            width = n2 ∙ n1 ∙ c.width;
            ends = sym end;
          },
          most,
        )
        go (suc n) here end = (
          record {
            fixed = same ∙ c.fixed;
            owns = owns;
            stand = stand2;
            cycles = cycles2;
            alive = subst (λ cs. Each (λ n d. IsAlive first.config d) cs) (sym m.made)
                (each_more (λ n d. IsAlive first.config d) (own_entries k.own k.seen) entry c.alive
                (omega arith));
            jobs = jobs2;
            width = n2 ∙ n1 ∙ c.width;
            count = let a = c.count in omega (arith, len);
            few = few2;
          },
          most,
        )

pub cycling_first : (k : PermitState) (ls : List DriveLinkState) → k.own ≡ [] → Each (IsInStep []) ls →
    length ls ≡ length k.config.axes → IsCycling k ls 0 k ls
cycling_first k ls none each width =
    let m = entries_first k.own k.seen none in
    record {
      fixed = refl;
      owns = owns_first (IsUpTo k.config 0) k.own k.seen none;
      stand = subst (λ cs. Each (IsInStep cs) ls) (sym m) each;
      cycles = subst (λ cs. Each (IsCycle k.config ls) cs) (sym m) (λ n c at. absurd (cc));
      alive = subst (λ cs. Each (λ n d. IsAlive k.config d) cs) (sym m) (λ n c at. absurd (cc));
      jobs = refl;
      width = width;
      count = sym (ap length m);
      few = omega arith;
    }
