-- What a run does at one instruction.
-- for: next, open, answered
use Rattle.std.proofs.Common.{◌≡◌, ◌≤◌, ℕ, zero, suc, ◌+◌, ◌-◌, ℤ, List, [], ◌∷◌, Some, None, drop, length, min, slice_get, ap, sym, refl, subst, ◌∙◌, arith}
use Rattle.std.proofs.lemmas.Grind.{common_steps}
use Rattle.plc_types.specs.declared.inputs.Inputs.{Inputs}
use Rattle.plc_types.specs.declared.outputs.Outputs.{Outputs}
use Rattle.st_exec.specs.Acting.{IsDone, Performs, stack_of}
use Rattle.st_exec.specs.Code.{Code}
use Rattle.st_exec.specs.Machine.{Effect, Goes, Lacks, effect_of, led_on, run}
use Rattle.st_exec.specs.Scan.{Asked, HasAll, Stand}
use Rattle.st_exec.specs.Standing.{Advances, MayRun, from_place}
use Rattle.st_exec.specs.declared.instruction.Act.{Act}
use Rattle.st_exec.specs.declared.instruction.Instruction.TheVariants.{Do}
use Rattle.st_exec.specs.declared.machine.Machine.{Machine}

-- to pass instructions is to leave them out
run_drop : (us n : ℕ) (code : Code) (stack : List ℤ) (i : Inputs) (s : Stand) →
    run us code n stack i s ≡ run us (drop n code) 0 stack i s
run_drop us zero code stack i s = refl
run_drop us (suc n) [] stack i s = refl
run_drop us (suc n) (first ∷ code) stack i s = run_drop us n code stack i s

-- what is left of a code at one of its places
drop_from : {A : Type 0} (xs : List A) (n : ℕ) (x : A) → slice_get xs n ≡ Some x →
    drop n xs ≡ x ∷ drop (suc n) xs
drop_from [] n x there = absurd (cc)
drop_from (y ∷ xs) zero x there = cc
drop_from (y ∷ xs) (suc n) x there = drop_from xs n x there

pub drop_at : {A : Type 0} (xs : List A) (n : ℕ) (x : A) → slice_get xs n ≡ Some x →
    drop n xs ≡ x ∷ drop (n + 1) xs
drop_at xs n x there =
    let next : suc n ≡ n + 1 = omega arith in
    drop_from xs n x there ∙ ap (λ k. x ∷ drop k xs) next

-- what is left over the instructions that are passed
drop_behind : (code : Code) (place passed : ℕ) →
    drop (place + 1 + min passed (length code - (place + 1))) code ≡ drop passed (drop (place + 1) code)
drop_behind code place passed = grind (arith, common_steps)

-- an effect that is done leads on from where the machine then stands
led_done : (us : ℕ) (e : Effect) (passed : ℕ) (m n : Machine) (code : Code) (calls others : List Asked)
    (left : List Outputs) → IsDone e passed n → n.last ≡ m.last →
    HasAll (led_on e (record { calls = others; vars = m.vars.items; last = m.last.items; left = [] })
    (run us code)) →
    run us code passed (stack_of n) n.inputs
    (record { calls = calls; vars = n.vars.items; last = n.last.items; left = left }) ≡
    led_on e (record { calls = calls; vars = m.vars.items; last = m.last.items; left = left })
    (run us code)
led_done us (Goes k stack i vars) passed m n code calls others left done last all =
    rw (done.0, done.1, done.2, done.3, last) refl
led_done us Lacks passed m n code calls others left done last all = absurd all

-- the course at an act, by what is left over it
at_act : (us : ℕ) (code : Code) (place : ℕ) (act : Act) (m : Machine) (calls : List Asked)
    (left : List Outputs) → slice_get code place ≡ Some (Do act) →
    from_place us code place m calls left ≡
    led_on (effect_of us act (stack_of m) m.inputs m.vars.items m.last.items)
    (record { calls = calls; vars = m.vars.items; last = m.last.items; left = left })
    (run us (drop (place + 1) code))
unfolding from_place
at_act us code place act m calls left there =
    ap (λ l. run us l 0 (stack_of m) m.inputs
    (record { calls = calls; vars = m.vars.items; last = m.last.items; left = left }))
    (drop_at code place (Do act) there)

-- the course after an act, by the instructions that are passed
behind_act : (us : ℕ) (code : Code) (place passed : ℕ) (n : Machine) (calls : List Asked)
    (left : List Outputs) →
    from_place us code (place + 1 + min passed (length code - (place + 1))) n calls left ≡
    run us (drop (place + 1) code) passed (stack_of n) n.inputs
    (record { calls = calls; vars = n.vars.items; last = n.last.items; left = left })
unfolding from_place
behind_act us code place passed n calls left =
    ap (λ l. run us l 0 (stack_of n) n.inputs
    (record { calls = calls; vars = n.vars.items; last = n.last.items; left = left }))
    (drop_behind code place passed) ∙
    sym (run_drop us passed (drop (place + 1) code) (stack_of n) n.inputs _)

-- after an act the course is the same
act_done : (us : ℕ) (code : Code) (place passed : ℕ) (act : Act) (m n : Machine) →
    slice_get code place ≡ Some (Do act) → Performs us act m passed n → MayRun us code place m →
    (calls : List Asked) (left : List Outputs) →
    from_place us code (place + 1 + min passed (length code - (place + 1))) n calls left ≡
    from_place us code place m calls left
act_done us code place passed act m n there performs may calls left =
    behind_act us code place passed n calls left ∙
    (led_done us (effect_of us act (stack_of m) m.inputs m.vars.items m.last.items) passed m n
    (drop (place + 1) code) calls may.calls left performs.done performs.keeps.last
    (subst HasAll (at_act us code place act m may.calls [] there) may.operands) ∙
    sym (at_act us code place act m calls left there))

-- after an act a run may go on
pub may_go_on : (us : ℕ) (code : Code) (place passed stop : ℕ) (act : Act) (m n : Machine) →
    slice_get code place ≡ Some (Do act) → Performs us act m passed n → MayRun us code place m →
    stop ≡ place + 1 + min passed (length code - (place + 1)) → MayRun us code stop n
may_go_on us code place passed stop act m n there performs may is = record {
  calls = may.calls;
  operands = rw is (subst HasAll (sym (act_done us code place passed act m n there performs may may.calls []))
      may.operands);
  depth = omega (arith, is, performs.keeps.depth, may.depth);
  room = omega (arith, performs.keeps.room, may.room);
}

-- and has advanced
pub advances_on : (us : ℕ) (code : Code) (start place passed stop : ℕ) (act : Act) (first m n : Machine) →
    slice_get code place ≡ Some (Do act) → Performs us act m passed n → MayRun us code place m →
    stop ≡ place + 1 + min passed (length code - (place + 1)) →
    Advances us code start first place m → Advances us code start first stop n
advances_on us code start place passed stop act first m n there performs may is advances = record {
  same = λ calls left. ap (λ p. from_place us code p n calls left) is ∙
      (act_done us code place passed act m n there performs may calls left ∙ advances.same calls left);
  on = omega (arith, is, advances.on);
  depth = omega (arith, is, performs.keeps.depth, may.depth);
  room = performs.keeps.room ∙ advances.room;
  last = performs.keeps.last ∙ advances.last;
  vars = performs.keeps.vars ∙ advances.vars;
}

-- after a code there is no instruction
pub past_code : (code : Code) (place : ℕ) → slice_get code place ≡ None → length code ≤ place
past_code [] place none = omega arith
past_code (x ∷ code) zero none = absurd (cc)
past_code (x ∷ code) (suc n) none = omega (arith, past_code code n none)
