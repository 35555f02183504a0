-- A reply leads on.
-- for: next, answered
use Rattle.std.proofs.Common.{◌≡◌, ℕ, Bool, true, false, Option, Some, None, List, [], ◌∷◌, ◌++◌, refl, sym, ◌∙◌, subst}
use Rattle.std.specs.Prelude.{cond, is_some, slice_get}
use Rattle.std.specs.List.{Contains}
use Rattle.std.proofs.lemmas.List.Elements.{All-from_recursion}
use Rattle.plc_program.specs.Programs.{IsProgram, IsTask}
use Rattle.plc_types.specs.declared.outputs.Outputs.{Outputs}
use Rattle.plc_program.specs.declared.program.Instruction.{Instruction}
use Rattle.task_run.specs.Runs.{IsRun, is_settled, lines_of}
use Rattle.task_run.specs.Standing.{Stands}
use Rattle.plc_types.specs.declared.inputs.Inputs.{Inputs}
use Rattle.plc_types.specs.declared.flag.Flag.{Flag}
use Rattle.plc_program.specs.declared.program.Instruction.TheVariants as lines
use Rattle.task_run.specs.Tasks.{TaskState, after_reply, call_by, is_passed, last_call, next_in, next_of, state_after}
use Rattle.task_run.specs.declared.run.Next.{Next}
use Rattle.task_run.specs.declared.run.Next.TheVariants.{Call, Rest, End}
use Rattle.task_run.specs.declared.place.ProgramPosition.{ProgramPosition}
use Rattle.task_run.specs.declared.run.TaskRun.{TaskRun}
use Rattle.task_run.proofs.Called.{passed-contained, wait-called}
use Rattle.task_run.proofs.Places.{IsBefore, before, ended}
use Rattle.task_run.proofs.Settled.{is-plain}

none-is : (o : Option Instruction) → ((l : Instruction) → o ≡ Some l → ⊥) → o ≡ None
none-is None h = refl
none-is (Some l) h = absurd (h l refl)

-- the line of a run is the first to come
pub run-before : (program : List (List Instruction)) (run : TaskRun) (s : TaskState) (l : Instruction) → slice_get (lines_of program run) run.place.line ≡ Some l →
    IsRun program run s → IsBefore s.to_come l
run-before program run s l at r =
    before (lines_of program run) run.place l at (is-plain (lines_of program run) run.place.line l r.settled at) s.passed s.to_come r.stands

pub run-ended : (program : List (List Instruction)) (run : TaskRun) (s : TaskState) → ((l : Instruction) → slice_get (lines_of program run) run.place.line ≡ Some l → ⊥) →
    IsRun program run s → s.to_come ≡ []
run-ended program run s none r = ended (lines_of program run) run.place (none-is _ none) s.passed s.to_come r.stands

-- at the end a reply changes nothing
pub reply-ended : (program : List (List Instruction)) (run : TaskRun) (s : TaskState) (o : Outputs) → s.to_come ≡ [] → IsRun program run s →
    IsRun program (record run { resting = false }) (state_after s o)
unfolding state_after
reply-ended program run s o none r =
    let P : List Instruction → Type 0 = λ t. IsRun program (record run { resting = false }) (after_reply s.passed t o) in
    subst P (sym none) (record { within = r.within; stands = subst (λ t. Stands (lines_of program run) run.place s.passed t) none r.stands; settled = r.settled; rests = refl })

-- a reply that leads to the next line
pub reply-passed : (program : List (List Instruction)) (run : TaskRun) (s : TaskState) (o : Outputs) (l : Instruction) (t : List Instruction) (place : ProgramPosition) → s.to_come ≡ l ∷ t →
    is_passed l o ≡ true → IsRun program run s → Stands (lines_of program run) place (s.passed ++ l ∷ []) t → is_settled (lines_of program run) place.line ≡ true →
    IsRun program (record run { place = place; resting = false }) (state_after s o)
unfolding state_after
reply-passed program run s o l t place first passes r stands settled =
    let P : List Instruction → Type 0 = λ u. IsRun program (record run { place = place; resting = false }) (after_reply s.passed u o) in
    let Q : Bool → Type 0 = λ b. IsRun program (record run { place = place; resting = false })
    (cond b (record { passed = s.passed ++ l ∷ []; to_come = t; rests = false }) (record { passed = s.passed; to_come = l ∷ t; rests = true })) in
    subst P (sym first) (subst Q (sym passes) (record { within = r.within; stands = stands; settled = settled; rests = refl }))

-- a reply at which a wait rests
pub reply-rests : (program : List (List Instruction)) (run : TaskRun) (s : TaskState) (o : Outputs) (l : Instruction) (t : List Instruction) → s.to_come ≡ l ∷ t →
    is_passed l o ≡ false → IsRun program run s → IsRun program (record run { resting = true }) (state_after s o)
unfolding state_after
reply-rests program run s o l t first waits r =
    let P : List Instruction → Type 0 = λ u. IsRun program (record run { resting = true }) (after_reply s.passed u o) in
    let Q : Bool → Type 0 = λ b. IsRun program (record run { resting = true })
    (cond b (record { passed = s.passed ++ l ∷ []; to_come = t; rests = false }) (record { passed = s.passed; to_come = l ∷ t; rests = true })) in
    subst P (sym first) (subst Q (sym waits)
    (record { within = r.within; stands = subst (λ u. Stands (lines_of program run) run.place s.passed u) first r.stands; settled = r.settled; rests = refl }))

-- ---- what comes next

-- where a task doesn't rest
next-is : (s : TaskState) (n : Next) (t : List Instruction) → s.rests ≡ false → s.to_come ≡ t → n ≡ next_in s.passed t → n ≡ next_of s
unfolding next_of
next-is s n t stirs first is =
    let P : List Instruction → Type 0 = λ u. n ≡ cond s.rests Rest (next_in s.passed u) in
    let Q : Bool → Type 0 = λ b. n ≡ cond b Rest (next_in s.passed t) in
    subst P (sym first) (subst Q (sym stirs) is)

pub next-call : (program : List (List Instruction)) (run : TaskRun) (s : TaskState) (k : ℕ) (i : Inputs) → run.resting ≡ false →
    slice_get (lines_of program run) run.place.line ≡ Some (lines.Call k i) → IsRun program run s → Call k i ≡ next_of s
next-call program run s k i stirs at r =
    let b = run-before program run s (lines.Call k i) at r in
    next-is s (Call k i) (lines.Call k i ∷ b.others) (sym r.rests ∙ stirs) b.is refl

pub next-wait : (program : List (List Instruction)) (run : TaskRun) (s : TaskState) (k : ℕ) (flag : Flag) (n : Next) → run.resting ≡ false →
    slice_get (lines_of program run) run.place.line ≡ Some (lines.Wait k flag) → IsRun program run s → n ≡ call_by k (last_call k s.passed) → n ≡ next_of s
next-wait program run s k flag n stirs at r is =
    let b = run-before program run s (lines.Wait k flag) at r in
    next-is s n (lines.Wait k flag ∷ b.others) (sym r.rests ∙ stirs) b.is is

pub next-end : (program : List (List Instruction)) (run : TaskRun) (s : TaskState) → run.resting ≡ false →
    ((l : Instruction) → slice_get (lines_of program run) run.place.line ≡ Some l → ⊥) → IsRun program run s → End ≡ next_of s
next-end program run s stirs none r = next-is s End [] (sym r.rests ∙ stirs) (run-ended program run s none r) refl

-- ---- which call comes next

-- the lines of a run are a task
pub task-of : (program : List (List Instruction)) (run : TaskRun) (s : TaskState) → IsProgram program → IsRun program run s → IsTask (lines_of program run)
task-of program run s is r = All-from_recursion IsTask program is.tasks run.task [] r.within

call-by-is : (j k : ℕ) (o : Option Inputs) (i : Inputs) → call_by j o ≡ Call k i → (j ≡ k) × (o ≡ Some i)
call-by-is j k None i h = absurd (cc)
call-by-is j k (Some m) i h = (cc, cc)

call-by-end : (j : ℕ) (o : Option Inputs) → call_by j o ≡ End → is_some o ≡ true → {A : Type 0} → A
call-by-end j None h some {A} = absurd (cc)
call-by-end j (Some m) h some {A} = absurd (cc)

-- the call of a wait is one of the lines
pub wait-line : (program : List (List Instruction)) (run : TaskRun) (s : TaskState) (j : ℕ) (n : Next) (k : ℕ) (i : Inputs) → IsProgram program → IsRun program run s →
    n ≡ call_by j (last_call j s.passed) → n ≡ Call k i → Contains (lines_of program run) (lines.Call k i)
wait-line program run s j n k i is r by h =
    let call = call-by-is j k (last_call j s.passed) i (sym by ∙ h) in
    subst (λ m. Contains (lines_of program run) (lines.Call m i)) call.0
    (passed-contained j (lines_of program run) run.place s.passed s.to_come i (task-of program run s is r) r.stands call.1)

-- a wait has a call
pub wait-goes-on : (program : List (List Instruction)) (run : TaskRun) (s : TaskState) (j : ℕ) (flag : Flag) (n : Next) → IsProgram program →
    slice_get (lines_of program run) run.place.line ≡ Some (lines.Wait j flag) → IsRun program run s → n ≡ call_by j (last_call j s.passed) → n ≡ End → {A : Type 0} → A
wait-goes-on program run s j flag n is at r by h {A} =
    call-by-end j (last_call j s.passed) (sym by ∙ h)
    (wait-called (lines_of program run) run.place j flag s.passed s.to_come (task-of program run s is r) at r.stands)
