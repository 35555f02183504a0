-- A run under way, call by call.
-- for: run_task
use Rattle.std.proofs.Common.{◌≡◌, ℕ, ◌<◌, Bool, true, false, ◌||◌, Option, Some, None, List, [], ◌∷◌, ◌++◌, length, refl, sym, ◌∙◌, ap, subst, arith}
use Rattle.std.specs.Prelude.{cond}
use Rattle.plc_types.specs.declared.inputs.Inputs.{Inputs}
use Rattle.plc_types.specs.declared.outputs.Outputs.{Outputs}
use Rattle.plc_program.specs.declared.program.Instruction.{Instruction}
use Rattle.plc_program.specs.declared.program.Instruction.TheVariants as lines
use Rattle.task_run.specs.Callers.{CallerState, IsSameTask, IsUnused, MakesCall, MayFollow, cycles_from}
use Rattle.task_run.specs.Runs.{IsRun, lines_of}
use Rattle.task_run.specs.TaskCalls.{AreNextCalls, IsEndedBy, IsNextCall, TaskCalls, state_behind}
use Rattle.task_run.specs.Tasks.{TaskState, call_by, first_state, last_call, next_in, next_of, state_after}
use Rattle.task_run.specs.declared.caller.LoggedCall.{LoggedCall}
use Rattle.task_run.specs.declared.run.Next.TheVariants.{Call, End, Rest}
use Rattle.task_run.specs.declared.run.TaskRun.{TaskRun}

-- where a task stands after these calls
abbrev pub told_state : List (List Instruction) → TaskRun → CallerState → TaskState
told_state program first caller = state_behind (first_state (lines_of program first)) caller.calls

-- a run that began as the first stands after the caller's calls. The task rests where the run
-- still has to, or where the caller was asked to
pub record IsUnderWay (program : List (List Instruction)) (first run : TaskRun) (before caller : CallerState) : Type 0 where
  pub same : IsSameTask before caller
  pub task : run.task ≡ first.task
  pub calls : TaskCalls (lines_of program first) caller.calls
  pub run_is : IsRun program run (record (told_state program first caller) { rests = run.resting })
  pub rests : (told_state program first caller).rests ≡ run.resting || caller.rests
  pub unrefused : caller.refused ≡ false

-- ---- one call more

pub state-more : (s : TaskState) (cs : List LoggedCall) (c : LoggedCall) → state_behind s (cs ++ c ∷ []) ≡ state_after (state_behind s cs) c.reply
state-more s [] c = refl
state-more s (x ∷ cs) c = state-more (state_after s x.reply) cs c

pub calls-more : (s : TaskState) (earlier : ℕ) (cs : List LoggedCall) (c : LoggedCall) → AreNextCalls s earlier cs → IsNextCall (state_behind s cs) (cycles_from earlier cs) c → AreNextCalls s earlier (cs ++ c ∷ [])
calls-more s earlier [] c h next = (next, tt)
calls-more s earlier (x ∷ cs) c h next = (h.0, calls-more (state_after s x.reply) x.cycles cs c h.1 next)

pub cycles_more : (earlier : ℕ) (cs : List LoggedCall) (c : LoggedCall) → cycles_from earlier (cs ++ c ∷ []) ≡ c.cycles
cycles_more earlier [] c = refl
cycles_more earlier (x ∷ cs) c = cycles_more x.cycles cs c

-- a reply doesn't ask whether the task rests
after-same : (s : TaskState) (b : Bool) (o : Outputs) → state_after (record s { rests = b }) o ≡ state_after s o
unfolding state_after
after-same s b o = refl

-- ---- what comes next

call-by : (k : ℕ) (o : Option Inputs) → call_by k o ≡ Rest → {A : Type 0} → A
call-by k None h {A} = absurd (cc)
call-by k (Some i) h {A} = absurd (cc)

-- the lines ask for no rest
no-rest : (p t : List Instruction) → next_in p t ≡ Rest → {A : Type 0} → A
no-rest p [] h {A} = absurd (cc)
no-rest p (lines.Call k i ∷ t) h {A} = absurd (cc)
no-rest p (lines.Wait k flag ∷ t) h {A} = call-by k (last_call k p) h
no-rest p (lines.Repeat count ∷ t) h {A} = absurd (cc)
no-rest p (lines.Again ∷ t) h {A} = absurd (cc)

-- a rest comes where the task rests
pub rest-next : (s : TaskState) → Rest ≡ next_of s → s.rests ≡ true
unfolding next_of
rest-next s h = go s.rests h
  where
    go : (b : Bool) → Rest ≡ cond b Rest (next_in s.passed s.to_come) → b ≡ true
    go true e = refl
    go false e = no-rest s.passed s.to_come (sym e)

-- a call comes where it doesn't, and is the one that the lines ask for
pub call-next : (s : TaskState) (k : ℕ) (i : Inputs) → Call k i ≡ next_of s → (s.rests ≡ false) × (next_in s.passed s.to_come ≡ Call k i)
unfolding next_of
call-next s k i h = go s.rests h
  where
    go : (b : Bool) → Call k i ≡ cond b Rest (next_in s.passed s.to_come) → (b ≡ false) × (next_in s.passed s.to_come ≡ Call k i)
    go true e = absurd (cc)
    go false e = (refl, sym e)

-- so does the end
pub end-next : (s : TaskState) → End ≡ next_of s → s.rests ≡ false
unfolding next_of
end-next s h = go s.rests h
  where
    go : (b : Bool) → End ≡ cond b Rest (next_in s.passed s.to_come) → b ≡ false
    go true e = absurd (cc)
    go false e = refl

call-to-come : (p t : List Instruction) (k : ℕ) (i : Inputs) → next_in p t ≡ Call k i → t ≡ [] → {A : Type 0} → A
call-to-come p [] k i h none {A} = absurd (cc)
call-to-come p (l ∷ t) k i h none {A} = absurd (cc)

-- ---- a run under way

or-false : (b : Bool) → b ≡ b || false
or-false true = refl
or-false false = refl

pub way-first : (program : List (List Instruction)) (run : TaskRun) (caller : CallerState) → IsRun program run (first_state (lines_of program run)) → IsUnused caller → IsUnderWay program run run caller caller
way-first program run caller r u =
    let none : told_state program run caller ≡ first_state (lines_of program run) = ap (λ cs. state_behind (first_state (lines_of program run)) cs) u.calls in
    record {
      same = record { config = refl; task = refl };
      task = refl;
      calls = subst (λ cs. TaskCalls (lines_of program run) cs) (sym u.calls) tt;
      run_is = subst (λ (s : TaskState). IsRun program run (record s { rests = run.resting })) (sym none)
          (record { within = r.within; stands = r.stands; settled = r.settled; rests = refl });
      rests = ap (λ (s : TaskState). s.rests) none ∙ sym (ap (λ b. b || caller.rests) r.rests ∙ u.rests);
      unrefused = u.refused;
    }

-- after a call and its reply
pub way-called : (program : List (List Instruction)) (first run after : TaskRun) (before caller called : CallerState) (k : ℕ) (i : Inputs) (reply : Outputs) →
    IsUnderWay program first run before caller → Call k i ≡ next_of (record (told_state program first caller) { rests = run.resting }) → MakesCall caller k i called reply →
    IsRun program after (state_after (record (told_state program first caller) { rests = run.resting }) reply) → after.task ≡ run.task → IsUnderWay program first after before called
way-called program first run after before caller called k i reply w next m r task =
    let s = told_state program first caller in
    let c : LoggedCall = record { instance = k; inputs = i; reply = reply; cycles = m.cycles } in
    let (stirs, call) = call-next (record s { rests = run.resting }) k i next in
    let rests : caller.rests ≡ s.rests = sym (w.rests ∙ ap (λ b. b || caller.rests) stirs) in
    let follows = subst (λ b. MayFollow b (cycles_from 0 caller.calls) m.cycles) rests m.follows in
    let calls : called.calls ≡ caller.calls ++ c ∷ [] = ap (λ (d : CallerState). d.calls) m.caller in
    let over : called.rests ≡ false = ap (λ (d : CallerState). d.rests) m.caller in
    let now : told_state program first called ≡ state_after s reply = ap (λ cs. state_behind (first_state (lines_of program first)) cs) calls ∙ state-more (first_state (lines_of program first)) caller.calls c in
    let stands : IsRun program after (state_after s reply) = subst (λ t. IsRun program after t) (after-same s run.resting reply) r in
    record {
      same = record { config = ap (λ (d : CallerState). d.config) m.caller ∙ w.same.config; task = ap (λ (d : CallerState). d.task) m.caller ∙ w.same.task };
      task = task ∙ w.task;
      calls = subst (λ cs. TaskCalls (lines_of program first) cs) (sym calls)
          (calls-more (first_state (lines_of program first)) 0 caller.calls c w.calls (record { call = call; follows = follows }));
      run_is = subst (λ (t : TaskState). IsRun program after (record t { rests = after.resting })) (sym now)
          (record { within = stands.within; stands = stands.stands; settled = stands.settled; rests = refl });
      rests = ap (λ (t : TaskState). t.rests) now ∙ sym stands.rests ∙ or-false after.resting ∙ ap (λ b. after.resting || b) (sym over);
      unrefused = ap (λ (d : CallerState). d.refused) m.caller ∙ w.unrefused;
    }

-- after a rest
pub way-rested : (program : List (List Instruction)) (first run after : TaskRun) (before caller asked : CallerState) →
    IsUnderWay program first run before caller → Rest ≡ next_of (record (told_state program first caller) { rests = run.resting }) → asked ≡ record caller { rests = true } →
    IsRun program after (record (told_state program first caller) { rests = false }) → after.task ≡ run.task → IsUnderWay program first after before asked
way-rested program first run after before caller asked w next is r task =
    let s = told_state program first caller in
    let rests : s.rests ≡ true = w.rests ∙ ap (λ b. b || caller.rests) (rest-next (record s { rests = run.resting }) next) in
    subst (λ (d : CallerState). IsUnderWay program first after before d) (sym is) (record {
      same = record { config = w.same.config; task = w.same.task };
      task = task ∙ w.task;
      calls = w.calls;
      run_is = record { within = r.within; stands = r.stands; settled = r.settled; rests = refl };
      rests = rests ∙ sym (ap (λ b. b || true) r.rests);
      unrefused = w.unrefused;
    })

-- a task rests after a call
made-some : (lines : List Instruction) (cs : List LoggedCall) → (state_behind (first_state lines) cs).rests ≡ true → 0 < length cs
made-some lines [] h = absurd (cc)
made-some lines (c ∷ cs) h = omega arith

pub way-made : (program : List (List Instruction)) (first run : TaskRun) (before caller : CallerState) →
    IsUnderWay program first run before caller → Rest ≡ next_of (record (told_state program first caller) { rests = run.resting }) → 0 < length caller.calls
way-made program first run before caller w next =
    let s = told_state program first caller in
    made-some (lines_of program first) caller.calls (w.rests ∙ ap (λ b. b || caller.rests) (rest-next (record s { rests = run.resting }) next))

-- where a call is refused there is one to come
pub way-refused : (program : List (List Instruction)) (first run : TaskRun) (before caller refused : CallerState) (k : ℕ) (i : Inputs) →
    IsUnderWay program first run before caller → Call k i ≡ next_of (record (told_state program first caller) { rests = run.resting }) → refused ≡ record caller { refused = true } →
    TaskCalls (lines_of program first) refused.calls × (IsEndedBy (lines_of program first) refused.calls → ⊥) × IsSameTask before refused
way-refused program first run before caller refused k i w next is =
    let s = told_state program first caller in
    let call = call-next (record s { rests = run.resting }) k i next in
    let P : CallerState → Type 0 = λ d. TaskCalls (lines_of program first) d.calls × (IsEndedBy (lines_of program first) d.calls → ⊥) × IsSameTask before d in
    subst P (sym is) (w.calls, λ none. call-to-come s.passed s.to_come k i call.1 none, record { config = w.same.config; task = w.same.task })

-- a run that doesn't rest stands after the calls that were made
pub way-stands : (program : List (List Instruction)) (first run : TaskRun) (before caller : CallerState) →
    IsUnderWay program first run before caller → run.resting ≡ false →
    IsRun program run (record (told_state program first caller) { rests = false })
way-stands program first run before caller w off =
    subst (λ b. IsRun program run (record (told_state program first caller) { rests = b })) off w.run_is

pub refused-stands : (program : List (List Instruction)) (first run : TaskRun) (before caller refused : CallerState) (k : ℕ) (i : Inputs) →
    IsUnderWay program first run before caller → Call k i ≡ next_of (record (told_state program first caller) { rests = run.resting }) → refused ≡ record caller { refused = true } →
    IsRun program run (record (told_state program first refused) { rests = false })
refused-stands program first run before caller refused k i w next is =
    let call = call-next (record (told_state program first caller) { rests = run.resting }) k i next in
    subst (λ (d : CallerState). IsRun program run (record (told_state program first d) { rests = false })) (sym is)
    (way-stands program first run before caller w call.0)
