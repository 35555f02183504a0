-- The calls among logged entries, entry by entry.
-- for: run_plant
use Rattle.std.proofs.Common.{◌≡◌, ℕ, ◌+◌, ◌≤◌, List, [], ◌∷◌, ◌++◌, map, Bool, true, false, refl, sym, ap, ◌∙◌, subst, arith, append_assoc, append-nil}
use Rattle.plc_types.specs.declared.inputs.Inputs.{Inputs}
use Rattle.plc_types.specs.declared.outputs.Outputs.{Outputs}
use Rattle.motion_plant.specs.Calls.{AreCalls, IsCut, calls_in, entry_of, fixed_part, logged_calls}
use Rattle.motion_plant.specs.Makers.{IsBy, Logged, Owns, own_entries}
use Rattle.motion_plant.specs.TaskEnds.{TaskDone, TaskMade}
use Rattle.motion_plant.proofs.OwnEntries.{entries_none, owns_none}
use Rattle.motion_history.specs.Entries.{Entry, call, end_of, cycles_of}
use Rattle.kernel_turn.specs.PermitState.{PermitState}
use Rattle.motion_history.specs.Setup.{Setup}
use Rattle.plc_program.specs.declared.program.Instruction.{Instruction}
use Rattle.task_run.specs.Callers.{MayFollow, cycles_from}
use Rattle.task_run.specs.TaskCalls.{IsEndedBy, TaskCalls}
use Rattle.task_run.specs.declared.caller.LoggedCall.{LoggedCall}
use Rattle.motion_plant.proofs.Lists.{map_more}

pub calls_more : (ls ms : List Logged) → logged_calls (ls ++ ms) ≡ logged_calls ls ++
    logged_calls ms
calls_more [] ms = refl
calls_more (l ∷ ls) ms = ap (λ cs. calls_in l.entry (cycles_of l.before) ++ cs) (calls_more ls ms) ∙
    sym (append_assoc (calls_in l.entry (cycles_of l.before)) (logged_calls ls) (logged_calls ms))

-- one call more
pub one_call : (made made' : List Logged) (before : List Entry) (k : ℕ) (i : Inputs) (r : Outputs)
    (c : ℕ) → made' ≡ made ++ record { before = before; entry = call k i r } ∷ [] →
    c ≡ cycles_of before →
    logged_calls made' ≡ logged_calls made ++ record {
      instance = k;
      inputs = i;
      reply = r;
      cycles =
          c;
    } ∷ []
one_call made made' before k i r c more is =
    ap logged_calls more ∙ calls_more made (record { before = before; entry = call k i r } ∷ []) ∙
    ap (λ n. logged_calls made ++ record { instance = k; inputs = i; reply = r; cycles = n } ∷
    []) (sym is)

pub still_calls : (made made' : List Logged) (before : List Entry) (k : ℕ) (i : Inputs)
    (r : Outputs) → AreCalls made → made' ≡ made ++ record { before = before; entry = call k i r } ∷
    [] → AreCalls made'
still_calls made made' before k i r are more =
    ap (map (λ (l : Logged). l.entry)) more
    ∙ map_more (λ (l : Logged). l.entry) made (record { before = before; entry = call k i r } ∷ [])
    ∙ ap (λ es. es ++ call k i r ∷ []) are
    ∙ sym (map_more entry_of (logged_calls made) (record {
      instance = k;
      inputs = i;
      reply = r;
      cycles = cycles_of before;
    } ∷ []))
    ∙ sym (ap (map entry_of) (one_call made made' before k i r (cycles_of before) more refl))

pub last_more : (c : ℕ) (cs : List LoggedCall) (x : LoggedCall) → cycles_from c (cs ++ x ∷ []) ≡
    x.cycles
last_more c [] x = refl
last_more c (y ∷ cs) x = last_more y.cycles cs x

-- where a rest is asked for, the call comes a cycle later
pub may_follow : (last from : ℕ) (rests : Bool) (seen c : ℕ) (h : last ≡ from) {after : ℕ} →
    (rests ≡ true → after ≡ last + 1) → after ≤ c → last ≤ seen → seen ≤ c → MayFollow rests from c
may_follow last from rests seen c h asks le b d = record {
  behind = omega arith;
  rested = λ t. let x = asks t in omega arith;
}

-- a task that was refused, and one that ended
pub refused_made : (lines : List Instruction) (t : ℕ) (made : List Logged) → AreCalls made →
    TaskCalls lines (logged_calls made) → TaskMade lines t false made
refused_made lines t made are calls = record {
  entries = are ∙ sym (append-nil (map entry_of (logged_calls made)));
  calls = calls;
  whole = λ e. absurd (cc);
}

pub ended_made : (lines : List Instruction) (t : ℕ) (made made' : List Logged)
    (before : List Entry) → AreCalls made → TaskCalls lines (logged_calls made) →
    IsEndedBy lines (logged_calls made) → made' ≡ made ++ record {
      before = before;
      entry =
          end_of t;
    } ∷ [] → TaskMade lines t true made'
ended_made lines t made made' before are calls ended more =
    let same : logged_calls made' ≡ logged_calls made = ap logged_calls more ∙
    calls_more made (record { before = before; entry = end_of t } ∷ []) ∙
    append-nil (logged_calls made) in
    record {
      entries = ap (map (λ (l : Logged). l.entry)) more ∙ map_more (λ (l : Logged). l.entry) made
          (record { before = before; entry = end_of t } ∷ []) ∙ ap (λ es. es ++ end_of t ∷ []) are ∙
          ap (λ cs. map entry_of cs ++ end_of t ∷ []) (sym same);
      calls = subst (TaskCalls lines) (sym same) calls;
      whole = λ e. subst (IsEndedBy lines) (sym same) ended;
    }

-- a permit that has made nothing
pub owns_first : (P : Entry → Type 0) (own : List ℕ) (h : List Entry) → own ≡ [] → Owns P own h
owns_first P own h e = subst (λ o. Owns P o h) (sym e) (owns_none P h)

pub entries_first : (own : List ℕ) (h : List Entry) → own ≡ [] → own_entries own h ≡ []
entries_first own h e = ap (λ o. own_entries o h) e ∙ entries_none h

pub last_call : (made made' : List Logged) (before : List Entry) (k : ℕ) (i : Inputs) (r : Outputs)
    (c : ℕ) → made' ≡ made ++ record { before = before; entry = call k i r } ∷ [] →
    c ≡ cycles_of before → c ≡ cycles_from 0 (logged_calls made')
last_call made made' before k i r c more is =
    sym (ap (cycles_from 0) (one_call made made' before k i r c more is) ∙
    last_more 0 (logged_calls made) (record { instance = k; inputs = i; reply = r; cycles = c }))

-- a task whose program came to its end
pub task_done : (first : PermitState) (t : ℕ) (lines : List Instruction) (p q : PermitState)
    (ended : Bool) → fixed_part p ≡ fixed_part first → fixed_part q ≡ fixed_part p →
    Owns (IsBy p.config t) q.own q.seen → AreCalls (own_entries p.own p.seen) →
    TaskCalls lines (logged_calls (own_entries p.own p.seen)) →
    IsEndedBy lines (logged_calls (own_entries p.own p.seen)) →
    (ended ≡ true → (before : List Entry) × (own_entries q.own q.seen ≡ own_entries p.own p.seen ++
    record { before = before; entry = end_of t } ∷ [])) →
    (ended ≡ false → own_entries q.own q.seen ≡ own_entries p.own p.seen) →
    (ended ≡ false → IsCut q) → TaskDone first t lines (record { permit = q; ended = ended })
task_done first t lines p q ended same same' owns are calls whole did never cut =
    let config : p.config ≡ first.config = ap (λ (z : PermitState). z.config) same in
    record {
      fixed = same' ∙ same;
      owns = subst (λ (s : Setup). Owns (IsBy s t) q.own q.seen) config owns;
      made = go ended did never;
      cut = cut;
    }
  where
    go : (b : Bool) → (b ≡ true → (before : List Entry) × (own_entries q.own q.seen ≡
        own_entries p.own p.seen ++ record { before = before; entry = end_of t } ∷ [])) →
        (b ≡ false → own_entries q.own q.seen ≡ own_entries p.own p.seen) →
        TaskMade lines t b (own_entries q.own q.seen)
    go true f n = let r = f refl in ended_made lines t (own_entries p.own p.seen)
        (own_entries q.own q.seen) r.0 are calls whole r.1
    go false f n = subst (TaskMade lines t false) (sym (n refl))
        (refused_made lines t (own_entries p.own p.seen) are calls)
