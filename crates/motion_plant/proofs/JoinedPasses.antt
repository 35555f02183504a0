-- Stops, joins and the close, one by one.
-- for: run_plant
use Rattle.std.proofs.Common.{◌≡◌, ℕ, zero, suc, ◌+◌, ◌<◌, ◌≤◌, List, [], ◌∷◌, ◌++◌, length, Bool, true, false, Some, refl, sym, ap, ◌∙◌, subst, arith, append_assoc, append-nil, ⊎_elim}
use Rattle.std.specs.Prelude.{slice_get, ◌||◌, ◌==◌}
use mathlib.Core.List.{IsPrefix}
use Rattle.std.proofs.Common.{eq-eqb}
use Rattle.std.proofs.lemmas.Bool.{cases_lt as order}
use Rattle.std.specs.declared.snapshot.Snapshot.{Snapshot}
use Rattle.drive_jobs.specs.DriveLinkState.{DriveLinkState}
use Rattle.kernel_turn.specs.PermitState.{PermitState}
use Rattle.kernel_turn.specs.Times.{one, times, once_below}
use Rattle.kernel_turn.specs.Turns.{IsFound, IsJoined, IsLawful, permit_after_stop}
use Rattle.motion_plant.specs.Cycling.{IsCycle, IsCycled}
use Rattle.motion_plant.specs.Driven.{IsAlive}
use Rattle.motion_plant.specs.Jobs.{job_lines}
use Rattle.motion_plant.specs.Joined.{HasMade, IsJoinedUpTo, IsStopped, kept_part}
use Rattle.motion_plant.specs.Lines.{HasColumn}
use Rattle.motion_plant.specs.Makers.{IsBy, IsUpTo, Logged, Owns, is_in, own_entries, own_entries_by}
use Rattle.motion_plant.specs.Places.{Each}
use Rattle.motion_plant.specs.TaskEnds.{TaskDone, TaskMade}
use Rattle.motion_plant.proofs.OwnEntries.{entries_prefix, owns_prefix}
use Rattle.motion_plant.proofs.JoinedEntries.{joined_new, joined_old, joined_owns, cycles_first}
use Rattle.motion_history.specs.Entries.{Entry}
use Rattle.motion_history.specs.Setup.{Setup}
use Rattle.motion_kernel.specs.KernelState.{KernelState}
use Rattle.motion_plant.specs.declared.cycles.Ending.{Ending}
use Rattle.motion_plant.specs.declared.cycles.Ending.TheVariants as endings
use Rattle.motion_plant.specs.declared.task_job.TaskJob.{TaskJob}
use Rattle.motion_plant.specs.declared.task_job.TaskJobEnd.{TaskJobEnd}
use Rattle.motion_plant.proofs.TurnLaws.{cycles_begin}
use Rattle.motion_plant.proofs.Lists.{some_is}

pub stopped_not : (first : PermitState) (ls0 : List DriveLinkState) (k : PermitState) (ls : List DriveLinkState)
    (ending : Ending) → IsCycled first ls0 k ls ending → (ending ≡ endings.Over → ⊥) →
    IsStopped first ls0 k ls ending
stopped_not first ls0 k ls ending c never = record {
  kept = ap kept_part c.fixed;
  out = ap (λ (p : PermitState). p.out) c.fixed;
  stops = λ e. ap (λ (p : PermitState). p.made_stop) c.fixed;
  made = λ e. absurd (never e);
  owns = c.owns;
  columns = c.columns;
  cycles = c.cycles;
  alive = c.alive;
  jobs = c.jobs;
  width = c.width;
  ends = c.ends;
}

pub stopped_over : (first : PermitState) (ls0 : List DriveLinkState) (k k' : PermitState)
    (ls : List DriveLinkState) (f : KernelState) → IsCycled first ls0 k ls endings.Over → IsFound k f →
    k' ≡ permit_after_stop k f → IsLawful k'.config k'.seen → IsStopped first ls0 k' ls endings.Over
stopped_over first ls0 k k' ls f c w is lawful =
    let h : f.history ≡ k.seen ++ w.begins.0 = sym w.begins.1 in
    let seen : k'.seen ≡ k.seen ++ w.begins.0 = ap (λ (p : PermitState). p.seen) is ∙ h in
    let own : k'.own ≡ k.own = ap (λ (p : PermitState). p.own) is in
    let made : own_entries k'.own k'.seen ≡ own_entries k.own k.seen =
    (λ j. own_entries (own j) (seen j)) ∙ entries_prefix k.own k.seen w.begins.0 c.owns.below in
    let kept : kept_part k' ≡ kept_part first = ap kept_part is ∙ ap kept_part c.fixed in
    let cy = ap (λ (p : PermitState). p.config.cycles) kept in
    let a = cycles_begin k.seen k'.seen (w.begins.0, sym seen) in
    let b = lawful.legal.cycles in
    let e = c.ends in
    record {
      kept = kept;
      out = ap (λ (p : PermitState). p.out) is ∙ ap (λ (p : PermitState). p.out) c.fixed;
      stops = λ e. absurd (cc);
      made = λ e. ap (λ (p : PermitState). p.made_stop) is;
      owns = subst (λ os. Owns (IsUpTo first.config 0) os k'.seen) (sym own)
          (subst (λ es. Owns (IsUpTo first.config 0) k.own es) (sym seen)
          (owns_prefix (IsUpTo first.config 0) k.own k.seen w.begins.0 c.owns));
      columns = subst (λ cs. Each (HasColumn cs) ls) (sym made) c.columns;
      cycles = subst (λ cs. Each (IsCycle first.config ls) cs) (sym made) c.cycles;
      alive = subst (λ cs. Each (λ n d. suc n < length cs → IsAlive first.config d) cs)
          (sym made) c.alive;
      jobs = c.jobs;
      width = c.width;
      ends = omega arith;
    }

pub entries_trans : (xs ys zs : List Entry) → IsPrefix xs ys → IsPrefix ys zs → IsPrefix xs zs
entries_trans xs ys zs p q = (
  p.0 ++ q.0,
  sym (append_assoc xs p.0 q.0) ∙ ap (λ l. l ++ q.0) p.1 ∙
      q.1,
)

or_false : (a b : Bool) → b ≡ false → (a || b) ≡ a
or_false true b e = refl
or_false false b e = e

or_left : (a b : Bool) → (a || b) ≡ false → a ≡ false
or_left true b e = absurd (cc)
or_left false b e = refl

pub joined_first : (k : PermitState) → Owns (IsUpTo k.config 0) k.own k.seen →
    IsJoinedUpTo (own_entries k.own k.seen) k 0 k
joined_first k o = record {
  kept = refl;
  out = omega arith;
  owns = o;
  cycles =
      cycles_first k.config k.own k.seen o;
  begins = ([], append-nil _);
  stops = refl;
  met = λ e. e;
}

module _ (cs : List Logged) (first old o new : PermitState) (k : ℕ) (is : IsJoinedUpTo cs first k old)
    (b : Owns (IsBy first.config k) o.own o.seen) (j : IsJoined old o new) where
  own_is : new.own ≡ old.own ++ o.own
  own_is = ap (λ (z : PermitState). z.own) j.permit

  pub joined_more : k < first.out → o.made_stop ≡ false → IsJoinedUpTo cs first (suc k) new
  joined_more lt none =
      let out = ap (λ (z : PermitState). z.out) j.permit in
      let was = is.out in
      record {
        kept = ap kept_part j.permit ∙ is.kept;
        out = omega arith;
        owns = subst (λ w. Owns (IsUpTo first.config (suc k)) w new.seen) (sym own_is)
            (joined_owns first.config k old.own o.own old.seen o.seen new.seen j.begins
            j.begins_other is.owns b);
        cycles = ap (λ w. own_entries_by first.config 0 w new.seen) own_is ∙
            joined_old first.config k old.own o.own old.seen o.seen new.seen j.begins j.begins_other
            is.owns b 0 (omega arith) ∙ is.cycles;
        begins = entries_trans first.seen old.seen new.seen is.begins j.begins;
        stops = ap (λ (z : PermitState). z.made_stop) j.permit ∙
            or_false old.made_stop o.made_stop none ∙ is.stops;
        met = λ e. is.met (or_left old.met_stop o.met_stop
            (sym (ap (λ (z : PermitState). z.met_stop) j.permit) ∙ e));
      }

  pub tasks_more : {G : Type 0} (seats : List (Snapshot (TaskJob G))) (seat : Snapshot (TaskJob G))
      (ended : Bool) → slice_get seats k ≡ Some seat → ((n : ℕ) (z : Snapshot (TaskJob G)) → n < k →
      slice_get seats n ≡ Some z → HasMade (job_lines z.value) first.config n old) →
      TaskMade (job_lines seat.value) k ended (own_entries o.own o.seen) →
      (n : ℕ) (z : Snapshot (TaskJob G)) → n < k + 1 → slice_get seats n ≡ Some z →
      HasMade (job_lines z.value) first.config n new
  tasks_more seats seat ended there before made n z lt at = ⊎_elim
      (λ (l : n < k).
      let t = before n z l at in
      let same : own_entries_by first.config (suc n) new.own new.seen ≡ own_entries_by first.config
      (suc n) old.own old.seen = ap (λ w. own_entries_by first.config (suc n) w new.seen)
      own_is ∙ joined_old first.config k old.own o.own old.seen o.seen new.seen j.begins
      j.begins_other is.owns b (suc n) (omega arith) in
      (t.0, subst (λ m. TaskMade (job_lines z.value) n t.0 m) (sym same) t.1))
      (λ (ge : k ≤ n).
      let e : k ≡ n = omega arith in
      let same : seat ≡ z = some_is seat z (sym there ∙ ap (slice_get seats) e ∙ at) in
      let new_one : own_entries_by first.config (suc k) new.own new.seen ≡
      own_entries o.own o.seen = ap (λ w. own_entries_by first.config (suc k) w new.seen)
      own_is ∙ joined_new first.config k old.own o.own old.seen o.seen new.seen j.begins
      j.begins_other is.owns b in
      let mid : TaskMade (job_lines z.value) k ended (own_entries_by first.config
      (suc k) new.own new.seen) = subst (λ m. TaskMade (job_lines z.value) k ended m)
      (sym new_one) (subst (λ (y : Snapshot _). TaskMade (job_lines y.value) k ended
      (own_entries o.own o.seen)) same made) in (
        ended,
        subst (λ m. TaskMade (job_lines z.value) m ended (own_entries_by first.config
            (suc m) new.own new.seen)) e mid,
      ))
      (order n k)

-- what a joined task leaves
pub done_owns : {G : Type 0} (s : Setup) (t : ℕ) (j : TaskJob G) (e : TaskJobEnd) →
    TaskDone j.permit j.task (job_lines j) e → j.permit.config ≡ s → j.task ≡ t →
    Owns (IsBy s t) e.permit.own e.permit.seen
done_owns s t j e d config task = subst (λ (c : Setup). Owns (IsBy c t) e.permit.own e.permit.seen)
    config (subst (λ n. Owns (IsBy j.permit.config n) e.permit.own e.permit.seen) task d.owns)

-- all tickets are own at the close
one_true : (b : Bool) → b ≡ true → one b ≡ 1
unfolding one
one_true true e = refl
one_true false e = absurd (cc)

below_yes : (n m : ℕ) → n < m → 0 < once_below n m
below_yes n zero lt = absurd (omega arith)
below_yes n (suc m) lt = ⊎_elim
    (λ (l : n < m). let r = below_yes n m l in omega arith)
    (λ (ge : m ≤ n). let e : m ≡ n = omega arith in let o = one_true (m == n) (eq-eqb m n e) in
    omega arith)
    (order n m)

one_no : (b : Bool) → b ≡ false → one b ≡ 0
unfolding one
one_no false e = refl
one_no true e = absurd (cc)

times_in : (n : ℕ) (own : List ℕ) → 0 < times n own → is_in n own ≡ true
times_in n [] lt = absurd (omega arith)
times_in n (x ∷ own) lt = go (times_in n own) (x == n) refl
  where
    go : (0 < times n own → is_in n own ≡ true) → (b : Bool) → (x == n) ≡ b →
        ((x == n) || is_in n own) ≡ true
    go rest true e = ap (λ c. c || is_in n own) e
    go rest false e = let z = one_no (x == n) e in ap (λ c. c || is_in n own) e ∙ rest (omega arith)

pub all_in : (own : List ℕ) (h : List Entry) → ((x : ℕ) → times x own ≡ once_below x (length h)) →
    (n : ℕ) → n < length h → is_in n own ≡ true
all_in own h tickets n lt = let a = tickets n in let b = below_yes n (length h) lt in
    times_in n own (omega arith)
