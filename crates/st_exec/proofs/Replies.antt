-- A task that has taken a reply, or was opened, follows its code.
-- for: answered
use Rattle.std.proofs.Common.{◌≡◌, ℕ, ◌+◌, List, [], ◌∷◌, ◌++◌, Some, length, slice_get, vec_len, vec_capacity, ap, sym, refl, ◌∙◌, append_assoc, arith}
use Rattle.std.proofs.lemmas.Grind.{common_steps}
use Rattle.std.proofs.lemmas.List.{length-set}
use Rattle.std.specs.Prelude.{slice_set}
use Rattle.plc_types.specs.Inputs.{inputs_off}
use Rattle.plc_types.specs.declared.outputs.Outputs.{Outputs}
use Rattle.st_exec.specs.Acting.{stack_of}
use Rattle.st_exec.specs.Code.{Code}
use Rattle.st_exec.specs.Compiled.{Compiled, course_of, program_at}
use Rattle.st_exec.specs.Following.{Follows, HasReplied, code_at}
use Rattle.st_exec.specs.Machine.{run}
use Rattle.st_exec.specs.Scan.{Asked}
use Rattle.st_exec.specs.Standing.{from_place}
use Rattle.st_exec.specs.declared.instruction.Instruction.TheVariants.{Ask}
use Rattle.st_exec.specs.declared.machine.Machine.{Machine}
use Rattle.st_exec.specs.declared.task.StTask.{StTask}
use Rattle.st_exec.proofs.Walking.{drop_at}

-- after a call that got its reply, the course is that of what is left
at_reply : (us : ℕ) (code : Code) (place k : ℕ) (m n : Machine) (calls : List Asked) (reply : Outputs)
    (more : List Outputs) → slice_get code place ≡ Some (Ask k) → n.stack ≡ m.stack →
    n.inputs ≡ inputs_off → n.vars ≡ m.vars → n.last.items ≡ slice_set m.last.items k reply →
    from_place us code place m calls (reply ∷ more) ≡
    from_place us code (place + 1) n (calls ++ record { instance = k; inputs = m.inputs } ∷ []) more
unfolding from_place
at_reply us code place k m n calls reply more there stack inputs vars last =
    ap (λ l. run us l 0 (stack_of m) m.inputs
    (record { calls = calls; vars = m.vars.items; last = m.last.items; left = reply ∷ more }))
    (drop_at code place (Ask k) there) ∙
    sym (rw (stack, inputs, vars, last) refl)

-- one more
grown : {A : Type 0} (xs : List A) (x : A) → length (xs ++ x ∷ []) ≡ length xs + 1
grown xs x = grind (arith, common_steps)

-- it follows its code
pub reply_follows : (c : Compiled) (t u : StTask) (k : ℕ) (reply : Outputs) → t.asked ≡ Some k →
    HasReplied reply k t u → Follows c t → Follows c u
reply_follows c t u k reply is_asked has follows =
    let code_is : code_at c u ≡ code_at c t = ap (λ n. (program_at c n).code) has.task in
    let len_is : length (code_at c u) ≡ length (code_at c t) = ap (λ l. length l) code_is in
    let call : Asked = record { instance = k; inputs = t.machine.inputs } in
    let stack_len : vec_len u.machine.stack ≡ vec_len t.machine.stack = ap (λ v. vec_len v) has.stack in
    let stack_room : vec_capacity u.machine.stack ≡ vec_capacity t.machine.stack =
    ap (λ v. vec_capacity v) has.stack in
    record {
      there = rw has.task follows.there;
      calls = follows.calls ++ call ∷ [];
      many = grown follows.calls call ∙ (ap (λ n. n + 1) follows.many ∙
          sym (ap (λ l. length l) has.got ∙ grown t.got.items reply));
      same = λ more.
          ap (λ l. course_of c.us l u.vars.items u.last.items (u.got.items ++ more)) code_is ∙
          (ap (λ v. course_of c.us (code_at c t) v.items u.last.items (u.got.items ++ more)) has.vars ∙
          (ap (λ v. course_of c.us (code_at c t) t.vars.items v.items (u.got.items ++ more)) has.last ∙
          (ap (λ l. course_of c.us (code_at c t) t.vars.items t.last.items l)
          (ap (λ l. l ++ more) has.got ∙ append_assoc t.got.items (reply ∷ []) more) ∙
          (follows.same (reply ∷ more) ∙
          (at_reply c.us (code_at c t) t.place k t.machine u.machine follows.calls reply more
          (follows.asked k is_asked) has.stack has.inputs has.machine_vars has.machine_last ∙
          (ap (λ p. from_place c.us (code_at c t) p u.machine (follows.calls ++ call ∷ []) more)
          (sym has.place) ∙
          ap (λ l. from_place c.us l u.place u.machine (follows.calls ++ call ∷ []) more)
          (sym code_is)))))));
      asked = λ j some. absurd (cc (some, has.asked));
      depth = omega (arith, stack_len, has.place, follows.depth);
      stack_room = omega (arith, len_is, stack_room, follows.stack_room);
      got_depth = omega (arith, has.got_len, has.place, follows.got_depth);
      got_room = omega (arith, len_is, has.got_room, follows.got_room);
      vars = ap (λ v. length v.items) has.machine_vars ∙ (follows.vars ∙ sym (ap (λ v. length v.items) has.vars));
      last = ap (λ l. length l) has.machine_last ∙ (length-set t.machine.last.items k reply ∙
          (follows.last ∙ sym (ap (λ v. length v.items) has.last)));
    }
