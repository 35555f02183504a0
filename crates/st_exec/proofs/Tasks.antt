-- What a task gives is what the scan of its tree says.
-- for: next, open
use Rattle.std.proofs.Common.{◌≡◌, ◌≤◌, ◌<◌, ℕ, zero, suc, ℤ, Bool, true, false, List, [], ◌∷◌, ◌++◌, Option, Some, None, drop, length, slice_get, slice_index_or, ap, sym, refl, subst, ◌∙◌, append-nil, reverse, arith}
use Rattle.std.proofs.lemmas.Grind.{common_steps}
use Rattle.std.specs.List.{AllByRecursion}
use Rattle.plc_types.specs.Inputs.{inputs_off}
use Rattle.plc_types.specs.declared.inputs.Inputs.{Inputs}
use Rattle.plc_types.specs.declared.outputs.Outputs.{Outputs}
use Rattle.st_tree.specs.declared.program.Task.{Task}
use Rattle.st_exec.specs.Acting.{stack_of}
use Rattle.st_exec.specs.Code.{Code}
use Rattle.st_exec.specs.Compiled.{Compiled, HasOperands, IsSound, TaskProgram, course_of, is_ended, no_program, program_at, program_of}
use Rattle.st_exec.specs.Following.{Begins, Follows, IsOver, IsReset, Says, code_at, end_of_scan}
use Rattle.st_exec.specs.Machine.{run}
use Rattle.st_exec.specs.Scan.{Asked, HasAll, Over, Waits, at_first, scan_of}
use Rattle.st_exec.specs.Standing.{Advances, MayRun, from_place}
use Rattle.st_exec.specs.declared.instruction.Instruction.TheVariants.{Ask}
use Rattle.st_exec.specs.declared.machine.Machine.{Machine}
use Rattle.st_exec.specs.declared.task.StNext.{StNext}
use Rattle.st_exec.specs.declared.task.StNext.TheVariants.{Call}
use Rattle.st_exec.specs.declared.task.StTask.{StTask}
use Rattle.st_exec.proofs.Bodies.{body_runs}
use Rattle.st_exec.proofs.Walking.{drop_at}

-- ---- codes

-- what holds of all in a list holds at each place
all_at : {A : Type 0} (P : A → Type 0) (xs : List A) (n : ℕ) (d : A) → AllByRecursion P xs →
    n < length xs → P (slice_index_or xs n d)
all_at P [] n d all there = absurd (omega (arith, there))
all_at P (x ∷ xs) zero d all there = all.0
all_at P (x ∷ xs) (suc n) d all there = all_at P xs n d all.1 (omega (arith, there))

-- a task's code has its operands
program_has : (c : Compiled) (n : ℕ) → IsSound c → n < length c.tasks → HasOperands c.us (program_at c n)
unfolding program_at
program_has c n sound there = all_at (HasOperands c.us) c.tasks n no_program sound.operands there

-- nothing is left over a code
drop_past : (code : Code) (place : ℕ) → length code ≤ place → drop place code ≡ []
drop_past code place past = grind (arith, common_steps)

-- the course of the code of a tree is the scan of the tree
course_is_scan : (c : Compiled) (n : ℕ) (tree : Task) (vars : List ℤ) (last got : List Outputs) →
    program_at c n ≡ program_of tree →
    course_of c.us (program_at c n).code vars last got ≡ scan_of c.us tree.body.items vars last got
unfolding course_of program_of
course_is_scan c n tree vars last got is =
    ap (λ (p : TaskProgram). course_of c.us p.code vars last got) is ∙
    body_runs c.us tree.body.items vars last got

-- ---- a run

-- what is left of a task's code may be run
pub may_run : (c : Compiled) (t : StTask) → IsSound c → Follows c t →
    MayRun c.us (code_at c t) t.place t.machine
may_run c t sound follows = record {
  calls = follows.calls;
  operands = subst HasAll (follows.same []) ((program_has c t.task sound follows.there).all
      t.vars.items t.last.items (t.got.items ++ []));
  depth = follows.depth;
  room = follows.stack_room;
}

-- the courses of a task that has run on
same_on : (c : Compiled) (t : StTask) (m : Machine) (p : ℕ) (follows : Follows c t) →
    Advances c.us (code_at c t) t.place t.machine p m →
    course_of c.us (code_at c t) t.vars.items t.last.items t.got.items ≡
    from_place c.us (code_at c t) p m follows.calls []
same_on c t m p follows advances =
    ap (λ l. course_of c.us (code_at c t) t.vars.items t.last.items l) (sym (append-nil t.got.items)) ∙
    (follows.same [] ∙ sym (advances.same follows.calls []))

-- at a call the course waits for its reply
at_ask : (us : ℕ) (code : Code) (place k : ℕ) (m : Machine) (calls : List Asked) →
    slice_get code place ≡ Some (Ask k) →
    from_place us code place m calls [] ≡
    Waits (calls ++ record { instance = k; inputs = m.inputs } ∷ [])
unfolding from_place
at_ask us code place k m calls there =
    ap (λ l. run us l 0 (stack_of m) m.inputs
    (record { calls = calls; vars = m.vars.items; last = m.last.items; left = [] }))
    (drop_at code place (Ask k) there)

-- after a code the course is over
at_end : (us : ℕ) (code : Code) (place : ℕ) (m : Machine) (calls : List Asked) →
    length code ≤ place →
    from_place us code place m calls [] ≡
    Over (record { calls = calls; vars = m.vars.items; last = m.last.items; left = [] })
unfolding from_place
at_end us code place m calls past =
    ap (λ l. run us l 0 (stack_of m) m.inputs
    (record { calls = calls; vars = m.vars.items; last = m.last.items; left = [] }))
    (drop_past code place past)

-- ---- what `next` gives

-- a task that stands at a call gives it
pub says_call : (c : Compiled) (t u : StTask) (m : Machine) (p k : ℕ) (r : StNext) (tree : Task) →
    Follows c t → Advances c.us (code_at c t) t.place t.machine p m →
    slice_get (code_at c t) p ≡ Some (Ask k) →
    u ≡ record t { machine = m; place = p; asked = Some k } → r ≡ Call k m.inputs →
    program_at c t.task ≡ program_of tree →
    Says (program_of tree).finished
    (scan_of c.us tree.body.items t.vars.items t.last.items t.got.items) t r u
says_call c t u m p k r tree follows advances there is gives tree_is =
    rw (gives, is) (record {
      calls = follows.calls;
      answered = follows.many;
      waits = sym (course_is_scan c t.task tree t.vars.items t.last.items t.got.items tree_is) ∙
          (same_on c t m p follows advances ∙ at_ask c.us (code_at c t) p k m follows.calls there);
      same = (refl, refl, refl, refl);
      asked = refl;
    })

-- the scan of a task that stands after its code is over
over : (c : Compiled) (t u : StTask) (m : Machine) (p : ℕ) (tree : Task) →
    Follows c t → Advances c.us (code_at c t) t.place t.machine p m → length (code_at c t) ≤ p →
    IsReset (record t { machine = m; place = p }) u → t.asked ≡ None →
    program_at c t.task ≡ program_of tree →
    IsOver (scan_of c.us tree.body.items t.vars.items t.last.items t.got.items) t u
over c t u m p tree follows advances past reset none tree_is = record {
  calls = follows.calls;
  answered = follows.many;
  over = rw (reset.vars, reset.last)
      (sym (course_is_scan c t.task tree t.vars.items t.last.items t.got.items tree_is) ∙
      (same_on c t m p follows advances ∙ at_end c.us (code_at c t) p m follows.calls past));
  task = reset.task;
  got = reset.got;
  asked = reset.asked ∙ none;
}

-- it gives the end where the scan leaves `finished` TRUE
says_over : (finished : Option ℕ) (tree : Task) (c : Compiled) (t u : StTask) (ended : Bool) →
    IsOver (scan_of c.us tree.body.items t.vars.items t.last.items t.got.items) t u →
    is_ended finished u.vars.items ≡ ended →
    Says finished (scan_of c.us tree.body.items t.vars.items t.last.items t.got.items) t
    (end_of_scan ended) u
says_over finished tree c t u true is_over is = (is_over, is)
says_over finished tree c t u false is_over is = (is_over, is)

pub says_end : (c : Compiled) (t u : StTask) (m : Machine) (p : ℕ) (r : StNext) (tree : Task) →
    Follows c t → Advances c.us (code_at c t) t.place t.machine p m → length (code_at c t) ≤ p →
    IsReset (record t { machine = m; place = p }) u → t.asked ≡ None →
    r ≡ end_of_scan (is_ended (program_at c t.task).finished m.vars.items) →
    program_at c t.task ≡ program_of tree →
    Says (program_of tree).finished
    (scan_of c.us tree.body.items t.vars.items t.last.items t.got.items) t r u
says_end c t u m p r tree follows advances past reset none gives tree_is =
    rw gives (says_over (program_of tree).finished tree c t u _
    (over c t u m p tree follows advances past reset none tree_is)
    (ap (λ l. is_ended (program_of tree).finished l) reset.vars ∙
    ap (λ (q : TaskProgram). is_ended q.finished m.vars.items) (sym tree_is)))

-- ---- what a task follows

-- a run from the first instruction, with nothing on the stack, is the course of a scan
fresh : (us : ℕ) (code : Code) (place : ℕ) (stack : List ℤ) (i : Inputs) (vars v : List ℤ)
    (last l got more : List Outputs) → place ≡ 0 → stack ≡ [] → i ≡ inputs_off → v ≡ vars → l ≡ last →
    got ≡ [] →
    run us code 0 [] inputs_off (at_first v l (got ++ more)) ≡
    run us (drop place code) 0 (reverse stack) i
    (record { calls = []; vars = vars; last = last; left = more })
fresh us code place stack i vars v last l got more is_place is_stack is_i is_v is_l is_got =
    rw (is_place, is_stack, is_i, is_v, is_l, is_got) refl

-- a task whose scan begins follows its code
pub begins_follows : (c : Compiled) (t : StTask) → Begins c t → Follows c t
unfolding course_of from_place
begins_follows c t begins = record {
  there = begins.there;
  calls = [];
  many = sym (ap (λ l. length l) begins.got);
  same = λ more. fresh c.us (code_at c t) t.place t.machine.stack.items t.machine.inputs
      t.machine.vars.items t.vars.items t.machine.last.items t.last.items t.got.items more
      begins.place begins.stack begins.inputs (sym begins.vars) (sym begins.last) begins.got;
  asked = λ k some. absurd (cc (some, begins.asked));
  depth = omega (arith, t.machine.stack.ok.0, ap (λ l. length l) begins.stack);
  stack_room = begins.stack_room;
  got_depth = omega (arith, t.got.ok.0, ap (λ l. length l) begins.got);
  got_room = begins.got_room;
  vars = ap (λ l. length l) begins.vars;
  last = ap (λ l. length l) begins.last;
}

-- the next scan follows the code
pub reset_follows : (c : Compiled) (t u : StTask) (m : Machine) (p : ℕ) → Follows c t →
    Advances c.us (code_at c t) t.place t.machine p m →
    IsReset (record t { machine = m; place = p }) u → t.asked ≡ None → Follows c u
reset_follows c t u m p follows advances reset none =
    let len_is : length (code_at c u) ≡ length (code_at c t) =
    ap (λ n. length (program_at c n).code) reset.task in
    begins_follows c u (record {
      there = rw reset.task follows.there;
      place = reset.place;
      stack = reset.stack;
      inputs = reset.inputs;
      vars = ap (λ v. v.items) reset.machine_vars ∙ sym reset.vars;
      last = ap (λ v. v.items) reset.machine_last ∙ sym reset.last;
      got = reset.got;
      asked = reset.asked ∙ none;
      stack_room = omega (arith, len_is, reset.stack_room, advances.room, follows.stack_room);
      got_room = omega (arith, len_is, reset.got_room, follows.got_room);
    })
