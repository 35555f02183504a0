-- Lines written out, part by part.
-- for: open, next, answered
use Rattle.std.proofs.Common.{◌≡◌, ℕ, zero, suc, Bool, true, false, Option, Some, None, List, [], ◌∷◌, ◌++◌, refl, sym, ◌∙◌, ap, append_assoc}
use Rattle.std.specs.Prelude.{is_some}
use Rattle.std.specs.List.{list_all}
use Rattle.std.proofs.lemmas.List.{append-nil}
use Rattle.plc_program.specs.Programs.{repeating_after}
use Rattle.plc_program.specs.declared.program.Instruction.{Instruction}
use Rattle.plc_program.specs.declared.program.Instruction.TheVariants.{Call, Wait, Repeat, Again}
use Rattle.task_run.specs.Standing.{is_plain}
use Rattle.task_run.specs.Written.{Open, times, written_from, written_out}

-- this many times, and once more
pub times-more : (n : ℕ) (xs : List Instruction) → times n xs ++ xs ≡ xs ++ times n xs
times-more zero xs = sym (append-nil xs)
times-more (suc n) xs = append_assoc xs (times n xs) xs ∙ ap (λ ys. xs ++ ys) (times-more n xs)

pub times-nothing : (n : ℕ) → times n [] ≡ []
times-nothing zero = refl
times-nothing (suc n) = times-nothing n

-- whether a line more is in a repeat
pub repeats-join : (inside after : Bool) (lines more : List Instruction) → repeating_after inside lines ≡ Some after →
    repeating_after inside (lines ++ more) ≡ repeating_after after more
repeats-join inside after [] more h = let e : inside ≡ after = cc in ap (λ b. repeating_after b more) e
repeats-join inside after (Call k i ∷ lines) more h = repeats-join inside after lines more h
repeats-join inside after (Wait k flag ∷ lines) more h = repeats-join inside after lines more h
repeats-join false after (Repeat count ∷ lines) more h = repeats-join true after lines more h
repeats-join true after (Repeat count ∷ lines) more h = absurd (cc)
repeats-join true after (Again ∷ lines) more h = repeats-join false after lines more h
repeats-join false after (Again ∷ lines) more h = absurd (cc)

-- lines whose repeats end, and others
pub join-from : (o : Option Open) (front back : List Instruction) → repeating_after (is_some o) front ≡ Some false →
    written_from o (front ++ back) ≡ written_from o front ++ written_from None back
join-from None [] back h = refl
join-from (Some o) [] back h = absurd (cc)
join-from None (Call k i ∷ front) back h = ap (λ ls. Call k i ∷ ls) (join-from None front back h)
join-from None (Wait k flag ∷ front) back h = ap (λ ls. Wait k flag ∷ ls) (join-from None front back h)
join-from None (Repeat count ∷ front) back h = join-from (Some (record { count = count; lines = [] })) front back h
join-from None (Again ∷ front) back h = absurd (cc)
join-from (Some o) (Call k i ∷ front) back h = join-from (Some (record o { lines = o.lines ++ Call k i ∷ [] })) front back h
join-from (Some o) (Wait k flag ∷ front) back h = join-from (Some (record o { lines = o.lines ++ Wait k flag ∷ [] })) front back h
join-from (Some o) (Repeat count ∷ front) back h = absurd (cc)
join-from (Some o) (Again ∷ front) back h =
    ap (λ ls. times o.count o.lines ++ ls) (join-from None front back h) ∙ sym (append_assoc (times o.count o.lines) (written_from None front) (written_from None back))

pub join : (front back : List Instruction) → repeating_after false front ≡ Some false → written_out (front ++ back) ≡ written_out front ++ written_out back
unfolding written_out
join front back h = join-from None front back h

-- the lines of a repeat
body-from : (n : ℕ) (before body behind : List Instruction) → list_all is_plain body ≡ true →
    written_from (Some (record { count = n; lines = before })) (body ++ (Again ∷ behind)) ≡ times n (before ++ body) ++ written_from None behind
body-from n before [] behind h = ap (λ xs. times n xs ++ written_from None behind) (sym (append-nil before))
body-from n before (Call k i ∷ body) behind h =
    body-from n (before ++ Call k i ∷ []) body behind h ∙ ap (λ xs. times n xs ++ written_from None behind) (append_assoc before (Call k i ∷ []) body)
body-from n before (Wait k flag ∷ body) behind h =
    body-from n (before ++ Wait k flag ∷ []) body behind h ∙ ap (λ xs. times n xs ++ written_from None behind) (append_assoc before (Wait k flag ∷ []) body)
body-from n before (Repeat count ∷ body) behind h = absurd (cc)
body-from n before (Again ∷ body) behind h = absurd (cc)

pub repeated : (n : ℕ) (body behind : List Instruction) → list_all is_plain body ≡ true →
    written_out (Repeat n ∷ (body ++ (Again ∷ behind))) ≡ times n body ++ written_out behind
unfolding written_out
repeated n body behind h = body-from n [] body behind h

pub one-plain : (line : Instruction) → is_plain line ≡ true → written_out (line ∷ []) ≡ line ∷ []
unfolding written_out
one-plain (Call k i) h = refl
one-plain (Wait k flag) h = refl
one-plain (Repeat count) h = absurd (cc)
one-plain Again h = absurd (cc)

pub plain-first : (line : Instruction) (lines : List Instruction) → is_plain line ≡ true → written_out (line ∷ lines) ≡ line ∷ written_out lines
unfolding written_out
plain-first (Call k i) lines h = refl
plain-first (Wait k flag) lines h = refl
plain-first (Repeat count) lines h = absurd (cc)
plain-first Again lines h = absurd (cc)

-- a repeat ends, and none stands in it
pub record IsRepeat (more : List Instruction) : Type 0 where
  pub body : List Instruction
  pub behind : List Instruction
  pub is : more ≡ body ++ (Again ∷ behind)
  pub plain : list_all is_plain body ≡ true
  pub closed : repeating_after false behind ≡ Some false

pub repeat-ends : (more : List Instruction) → repeating_after true more ≡ Some false → IsRepeat more
repeat-ends [] h = absurd (cc)
repeat-ends (Call k i ∷ more) h =
    let r = repeat-ends more h in
    record { body = Call k i ∷ r.body; behind = r.behind; is = ap (λ ls. Call k i ∷ ls) r.is; plain = r.plain; closed = r.closed }
repeat-ends (Wait k flag ∷ more) h =
    let r = repeat-ends more h in
    record { body = Wait k flag ∷ r.body; behind = r.behind; is = ap (λ ls. Wait k flag ∷ ls) r.is; plain = r.plain; closed = r.closed }
repeat-ends (Repeat count ∷ more) h = absurd (cc)
repeat-ends (Again ∷ more) h = record { body = []; behind = more; is = refl; plain = refl; closed = h }

pub plain-repeats : (inside : Bool) (body more : List Instruction) → list_all is_plain body ≡ true → repeating_after inside (body ++ more) ≡ repeating_after inside more
plain-repeats inside [] more h = refl
plain-repeats inside (Call k i ∷ body) more h = plain-repeats inside body more h
plain-repeats inside (Wait k flag ∷ body) more h = plain-repeats inside body more h
plain-repeats inside (Repeat count ∷ body) more h = absurd (cc)
plain-repeats inside (Again ∷ body) more h = absurd (cc)
