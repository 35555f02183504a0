-- The machine that runs a task's code: one walk over the list of its instructions, with a stack.
use Rattle.std.specs.Prelude.{ℕ, zero, suc, ℤ, if◌then◌else◌, List, [], ◌∷◌, slice_set}
use Rattle.std.specs.Ordering.{int_eq}
use Rattle.plc_types.specs.Inputs.{inputs_off}
use Rattle.plc_types.specs.declared.inputs.Inputs.{Inputs}
use Rattle.plc_types.specs.declared.outputs.Outputs.{Outputs}
use Rattle.st_exec.specs.declared.instruction.Act.{Act}
use Rattle.st_exec.specs.declared.instruction.Act.TheVariants.{Push, Load, Show, Choose, Follow, Pass, Take}
use Rattle.st_exec.specs.declared.instruction.Use.{Use}
use Rattle.st_exec.specs.declared.instruction.Use.TheVariants.{Negate, Invert, Join, Store, Begin, Give, Unless, Match, Forget}
use Rattle.st_exec.specs.declared.instruction.Instruction.{Instruction}
use Rattle.st_exec.specs.declared.instruction.Instruction.TheVariants.{Do, Ask}
use Rattle.st_exec.specs.Scan.{Course, Over, Missing, Stand, asked, begun, with_number}
use Rattle.st_exec.specs.Values.{contrary_of, is_true, joined, negative_of, shown_of, variable_of}

-- what an act does: it passes this many instructions, and leaves a stack, inputs and variables; or
-- an operand is missing
pub data Effect : Type 0 where
  Goes : ℕ → List ℤ → Inputs → List ℤ → Effect
  Lacks : Effect

-- an act that takes the value on top, if there is one
abbrev pub with_top : List ℤ → (ℤ → List ℤ → Effect) → Effect
with_top [] go = Lacks
with_top (a ∷ stack) go = go a stack

-- what the use of a value does, by the stack under it, the inputs and the variables
abbrev pub use_of : ℕ → Use → ℤ → List ℤ → Inputs → List ℤ → Effect
use_of us Negate a stack i vars = Goes 0 (negative_of a ∷ stack) i vars
use_of us Invert a stack i vars = Goes 0 (contrary_of a ∷ stack) i vars
use_of us (Join operator) b stack i vars =
    with_top stack (λ a under. Goes 0 (joined operator a b ∷ under) i vars)
use_of us (Store x) a stack i vars = Goes 0 stack i (slice_set vars x a)
use_of us Begin a stack i vars = Goes 0 stack (begun a) vars
use_of us (Give key) a stack i vars = Goes 0 stack (with_number us key a i) vars
use_of us (Unless n) a stack i vars = Goes (if is_true a then 0 else n) stack i vars
use_of us (Match v n) a stack i vars =
    if int_eq a v then Goes 0 stack i vars else Goes n (a ∷ stack) i vars
use_of us Forget a stack i vars = Goes 0 stack i vars

-- what an act does by the stack, whose top stands first, the inputs and the variables
abbrev pub effect_of : ℕ → Act → List ℤ → Inputs → List ℤ → List Outputs → Effect
effect_of us (Push n) stack i vars last = Goes 0 (n ∷ stack) i vars
effect_of us (Load x) stack i vars last = Goes 0 (variable_of vars x ∷ stack) i vars
effect_of us (Show k flag) stack i vars last = Goes 0 (shown_of last k flag ∷ stack) i vars
effect_of us (Choose mode) stack i vars last = Goes 0 stack (record i { mode = mode }) vars
effect_of us (Follow axis) stack i vars last = Goes 0 stack (record i { master = axis }) vars
effect_of us (Pass n) stack i vars last = Goes n stack i vars
effect_of us (Take u) stack i vars last =
    with_top stack (λ a more. use_of us u a more i vars)

-- how a run goes on after an effect
abbrev pub led_on : Effect → Stand → (ℕ → List ℤ → Inputs → Stand → Course) → Course
led_on (Goes n stack i vars) s go = go n stack i (record s { vars = vars })
led_on Lacks s go = Missing

-- the course of a run of code: this many instructions are passed, then one after another is made
abbrev pub run : ℕ → List Instruction → ℕ → List ℤ → Inputs → Stand → Course
run us [] n stack i s = Over s
run us (first ∷ code) (suc n) stack i s = run us code n stack i s
run us (Do act ∷ code) zero stack i s = led_on (effect_of us act stack i s.vars s.last) s (run us code)
run us (Ask k ∷ code) zero stack i s =
    asked (record { instance = k; inputs = i }) s s.left (run us code zero stack inputs_off)
