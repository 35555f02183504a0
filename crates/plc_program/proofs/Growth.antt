-- Lines of tasks in a machine that gets more tasks and blocks.
-- for: read_program
use Rattle.std.proofs.Common.{◌≡◌, ℕ, ◌+◌, ◌<◌, zero, suc, List, [], ◌∷◌, ◌++◌, length, refl, sym, ◌∙◌, ap, subst, arith}
use Rattle.std.specs.Prelude.{cond, slice_get}
use Rattle.std.specs.List.{AllByRecursion}
use Rattle.std.proofs.lemmas.List.{length-append}
use Rattle.plc_types.specs.Kinds.{acts_on_group}
use Rattle.plc_types.specs.declared.axis.AxisDef.{AxisDef}
use Rattle.plc_types.specs.Inputs.{AreInputs}
use Rattle.plc_types.specs.declared.inputs.Inputs.{Inputs}
use Rattle.motion_history.specs.Calls.{IsCall, count_in}
use Rattle.motion_history.specs.Setup.{Setup}
use Rattle.motion_history.specs.declared.config.BlockDef.{BlockDef}
use Rattle.motion_history.specs.declared.config.GroupDef.{GroupDef}
use Rattle.plc_program.specs.Programs.{AreTasksOf, IsBlockOf, IsLineOf}
use Rattle.plc_program.specs.declared.program.Instruction.{Instruction}
use Rattle.plc_program.specs.declared.program.Instruction.TheVariants.{Call, Wait, Repeat, Again}
use Rattle.machine_words.proofs.Lists.{all-push}

-- a machine has got more blocks
pub record Grows (s t : Setup) : Type 0 where
  pub axes : t.axes ≡ s.axes
  pub groups : t.groups ≡ s.groups
  pub more : List BlockDef
  pub blocks : t.blocks ≡ s.blocks ++ more

get-front : {A : Type 0} (xs ys : List A) (k : ℕ) → k < length xs → slice_get (xs ++ ys) k ≡ slice_get xs k
get-front [] ys k h = absurd (omega arith)
get-front (x ∷ xs) ys zero h = refl
get-front (x ∷ xs) ys (suc k) h = get-front xs ys k (omega arith)

-- a block that was there is the same
same-block : (s t : Setup) → Grows s t → (k : ℕ) → k < length s.blocks → slice_get t.blocks k ≡ slice_get s.blocks k
same-block s t g k there = ap (λ bs. slice_get bs k) g.blocks ∙ get-front s.blocks g.more k there

still-there : (s t : Setup) → Grows s t → (k : ℕ) → k < length s.blocks → k < length t.blocks
still-there s t g k there = let e = ap length g.blocks ∙ length-append s.blocks g.more in omega (arith, e, there)

block-grows : (s t : Setup) → Grows s t → (task k : ℕ) → IsBlockOf s task k → IsBlockOf t task k
block-grows s t g task k is = record {
  there = still-there s t g k is.there;
  own = λ b at. is.own b (sym (same-block s t g k is.there) ∙ at);
}

call-grows : (s t : Setup) → Grows s t → (k : ℕ) (i : Inputs) → IsCall s k i → IsCall t k i
call-grows s t g k i is = record {
  there = still-there s t g k is.there;
  inputs = λ b at.
      let P : List GroupDef → Type 0 = λ gs. AreInputs b.kind (cond (acts_on_group b.kind) (count_in (slice_get gs b.object)) 1) i in
      subst P (sym g.groups) (is.inputs b (sym (same-block s t g k is.there) ∙ at));
  master = subst (λ (axes : List AxisDef). i.master < length axes) (sym g.axes) is.master;
}

line-grows : (s t : Setup) → Grows s t → (task : ℕ) (l : Instruction) → IsLineOf s task l → IsLineOf t task l
line-grows s t g task (Call k i) h = (block-grows s t g task k h.0, call-grows s t g k i h.1)
line-grows s t g task (Wait k flag) h = block-grows s t g task k h
line-grows s t g task (Repeat count) h = tt
line-grows s t g task Again h = tt

lines-grow : (s t : Setup) → Grows s t → (task : ℕ) (lines : List Instruction) → AllByRecursion (IsLineOf s task) lines → AllByRecursion (IsLineOf t task) lines
lines-grow s t g task [] h = tt
lines-grow s t g task (l ∷ lines) h = (line-grows s t g task l h.0, lines-grow s t g task lines h.1)

pub tasks-grow : (s t : Setup) → Grows s t → (task : ℕ) (tasks : List (List Instruction)) → AreTasksOf s task tasks → AreTasksOf t task tasks
tasks-grow s t g task [] h = tt
tasks-grow s t g task (lines ∷ more) h = (lines-grow s t g task lines h.0, tasks-grow s t g (suc task) more h.1)

-- a task without lines after the others
pub tasks-more : (s : Setup) (task : ℕ) (tasks : List (List Instruction)) → AreTasksOf s task tasks → AreTasksOf s task (tasks ++ [] ∷ [])
tasks-more s task [] h = (tt, tt)
tasks-more s task (lines ∷ more) h = (h.0, tasks-more s (suc task) more h.1)

-- one more line of the last task
pub tasks-line : (s : Setup) (task : ℕ) (before : List (List Instruction)) (lines : List Instruction) (l : Instruction) → AreTasksOf s task (before ++ lines ∷ []) →
    IsLineOf s (task + length before) l → AreTasksOf s task (before ++ (lines ++ l ∷ []) ∷ [])
tasks-line s task [] lines l h one =
    let e : task + 0 ≡ task = omega arith in
    (all-push (IsLineOf s task) lines l h.0 (subst (λ n. IsLineOf s n l) e one), tt)
tasks-line s task (first ∷ before) lines l h one =
    let e : task + length (first ∷ before) ≡ suc task + length before = omega arith in
    (h.0, tasks-line s (suc task) before lines l h.1 (subst (λ n. IsLineOf s n l) e one))
