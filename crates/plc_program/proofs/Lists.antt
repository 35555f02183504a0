-- Lists of instructions with one more at their end.
-- for: read_program
use Rattle.std.proofs.Common.{◌≡◌, ℕ, ◌+◌, Bool, true, false, Some, List, [], ◌∷◌, ◌++◌, length, refl, sym, ap, subst, append_assoc, arith}
use Rattle.std.proofs.lemmas.Bool.{le-leb}
use Rattle.std.proofs.lemmas.List.{append-nil, length-append}
use Rattle.std.specs.Prelude.{nat_le}
use Rattle.plc_program.specs.Programs.{AreBehindTheirCalls, IsBehindItsCall, repeating_after}
use Rattle.plc_program.specs.declared.program.Instruction.{Instruction}
use Rattle.plc_program.specs.declared.program.Instruction.TheVariants.{Call, Wait, Repeat, Again}

some_more : (n m : ℕ) → n ≡ m + 1 → nat_le 1 n ≡ true
some_more n m h = le-leb _ _ (omega (arith, h))

pub some-push : {A : Type 0} (xs : List A) (x : A) → nat_le 1 (length (xs ++ x ∷ [])) ≡ true
some-push [] x = refl
some-push (y ∷ ys) x = some_more (length (y ∷ ys ++ x ∷ [])) (length (y ∷ ys)) (length-append (y ∷ ys) (x ∷ []))

-- a list that has an item is not empty
pub unempty : {A : Type 0} (xs : List A) → xs ≡ [] → nat_le 1 (length xs) ≡ true → ⊥
unempty [] none some = absurd (cc)
unempty (x ∷ xs) none some = absurd (cc)

-- a wait after the others
pub behind-push : (above lines : List Instruction) (line : Instruction) → AreBehindTheirCalls above lines → IsBehindItsCall (above ++ lines) line →
    AreBehindTheirCalls above (lines ++ line ∷ [])
behind-push above [] line h one = (subst (λ q. IsBehindItsCall q line) (append-nil above) one, tt)
behind-push above (next ∷ lines) line h one =
    (h.0, behind-push (above ++ next ∷ []) lines line h.1 (subst (λ q. IsBehindItsCall q line) (sym (append_assoc above (next ∷ []) lines)) one))

-- lines after others end inside a repeat where they do after those
pub repeats-join : (inside after : Bool) (lines more : List Instruction) → repeating_after inside lines ≡ Some after →
    repeating_after inside (lines ++ more) ≡ repeating_after after more
repeats-join inside after [] more h = let e : inside ≡ after = cc in ap (λ b. repeating_after b more) e
repeats-join inside after (Call k i ∷ lines) more h = repeats-join inside after lines more h
repeats-join inside after (Wait k flag ∷ lines) more h = repeats-join inside after lines more h
repeats-join false after (Repeat count ∷ lines) more h = repeats-join true after lines more h
repeats-join true after (Repeat count ∷ lines) more h = absurd (cc)
repeats-join true after (Again ∷ lines) more h = repeats-join false after lines more h
repeats-join false after (Again ∷ lines) more h = absurd (cc)
