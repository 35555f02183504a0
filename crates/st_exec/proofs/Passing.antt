-- How a run passes instructions, and how courses are joined.
-- for: next, open, compile and others
use Rattle.std.proofs.Common.{◌≡◌, ℕ, suc, ◌+◌, ℤ, Bool, true, false, if◌then◌else◌, List, [], ◌∷◌, ◌++◌, length, ap, refl, ◌∙◌, arith}
use Rattle.plc_types.specs.declared.inputs.Inputs.{Inputs}
use Rattle.plc_types.specs.declared.outputs.Outputs.{Outputs}
use Rattle.st_exec.specs.Code.{Code}
use Rattle.st_exec.specs.Machine.{run}
use Rattle.st_exec.specs.Scan.{Asked, Course, Over, Waits, Missing, Stand, asked, then_do}
use Rattle.st_exec.specs.declared.instruction.Act.TheVariants.{Pass}
use Rattle.st_exec.specs.declared.instruction.Instruction.{Instruction}
use Rattle.st_exec.specs.declared.instruction.Instruction.TheVariants.{Do}

-- this many instructions are passed
pub passed : (us : ℕ) (a rest : Code) (stack : List ℤ) (i : Inputs) (s : Stand) →
    run us (a ++ rest) (length a) stack i s ≡ run us rest 0 stack i s
passed us [] rest stack i s = refl
passed us (first ∷ a) rest stack i s = passed us a rest stack i s

-- and one more
pub passed_one : (us : ℕ) (a : Code) (one : Instruction) (rest : Code) (stack : List ℤ) (i : Inputs)
    (s : Stand) →
    run us (a ++ one ∷ rest) (length a + 1) stack i s ≡ run us rest 0 stack i s
passed_one us [] one rest stack i s = refl
passed_one us (first ∷ a) one rest stack i s =
    let next : length (first ∷ a) + 1 ≡ suc (length a + 1) = omega arith in
    ap (λ n. run us (first ∷ a ++ one ∷ rest) n stack i s) next ∙ passed_one us a one rest stack i s

-- a jump over code leads after it
pub jumped : (us : ℕ) (a rest : Code) (stack : List ℤ) (i : Inputs) (s : Stand) →
    run us (Do (Pass (length a)) ∷ a ++ rest) 0 stack i s ≡ run us rest 0 stack i s
jumped us a rest stack i s = passed us a rest stack i s

-- courses that go on the same way are the same
pub then_same : (c : Course) (f g : Stand → Course) → ((s : Stand) → f s ≡ g s) →
    then_do c f ≡ then_do c g
then_same (Over s) f g same = same s
then_same (Waits calls) f g same = refl
then_same Missing f g same = refl

-- to go on twice is to go on with both
pub then_twice : (c : Course) (f g : Stand → Course) →
    then_do (then_do c f) g ≡ then_do c (λ s. then_do (f s) g)
then_twice (Over s) f g = refl
then_twice (Waits calls) f g = refl
then_twice Missing f g = refl

-- to go on after a call
pub asked_then : (call : Asked) (s : Stand) (left : List Outputs) (go : Stand → Course) →
    then_do (asked call s left Over) go ≡ asked call s left go
asked_then call s [] go = refl
asked_then call s (reply ∷ left) go = refl

-- to go on after a choice
pub then_choice : (b : Bool) (c d : Course) (go : Stand → Course) →
    then_do (if b then c else d) go ≡ (if b then then_do c go else then_do d go)
then_choice true c d go = refl
then_choice false c d go = refl

-- choices between what is the same
pub same_choice : {A : Type 0} (b : Bool) (c d e f : A) → c ≡ e → d ≡ f →
    (if b then c else d) ≡ (if b then e else f)
same_choice true c d e f first second = first
same_choice false c d e f first second = second
