-- A text means where the lines lead that it spells.
-- for: crates above
use Rattle.std.proofs.Common.{◌≡◌, refl, ℕ, ◌+◌, true, false, List, [], ◌∷◌, length, Ok, Err, sym, ap, subst, inl, inr, arith}
use Rattle.std.specs.Prelude.{◌==◌}
use Rattle.std.proofs.lemmas.Bool.{cases_Bool, eqb-true, ne_eqb}
use Rattle.std.proofs.lemmas.List.{nil_from_length}
use Rattle.line_text.specs.Leading.{LineLeads, LinesLead, WordsLead}
use Rattle.line_text.specs.Reading.{Meaning, at_line, line_meaning, lines_meaning}
use Rattle.line_text.specs.Spelling.{AreSpelled, SpellsWords}
use Rattle.line_text.specs.Words.{is_clean, words_of}
use Rattle.line_text.proofs.Results.{bind_ok, line-ok, ok_is}

-- ---- what is read leads on

words-lead : {S : Type 0} (meaning : Meaning S) (s t : S) (words : List (List ℕ)) → (length words == 0) ≡ false → meaning s words ≡ Ok t → WordsLead meaning s words t
words-lead meaning s t [] some h = absurd (cc)
words-lead meaning s t (first ∷ words) some h = h

line-leads : AreSpelled → {S : Type 0} (meaning : Meaning S) (s t : S) (line : List ℕ) → line_meaning meaning s line ≡ Ok t → LineLeads meaning s line t
unfolding line_meaning
line-leads spells meaning s t line h =
    let words = words_of line in
    let spelled : SpellsWords line words = (spells.words line words).1 refl in
    elim (cases_Bool (is_clean line)) [
      | inl clean ↦ elim (cases_Bool (length words == 0)) [
        | inl none ↦
            let e : Ok s ≡ Ok t = rw (clean, none) at h in
            let nil : words ≡ [] = nil_from_length words (eqb-true _ _ none) in
            record { words = []; clean = clean; spelled = subst (λ ws. SpellsWords line ws) nil spelled; leads = sym (ok_is (Ok s) s t refl e) }
        | inr some ↦
            let e : meaning s words ≡ Ok t = rw (clean, some) at h in
            record { words = words; clean = clean; spelled = spelled; leads = words-lead meaning s t words some e }
      ]
      | inr other ↦ let e : Err 1 ≡ Ok t = rw other at h in absurd (cc)
    ]

-- lines that are read lead on
pub lines-lead : AreSpelled → {S : Type 0} (meaning : Meaning S) (n : ℕ) (s t : S) (lines : List (List ℕ)) → lines_meaning meaning n s lines ≡ Ok t → LinesLead meaning s lines t
lines-lead spells meaning n s t [] h = let e : s ≡ t = cc in sym e
lines-lead spells meaning n s t (line ∷ lines) h =
    let u = bind_ok (at_line (n + 1) (line_meaning meaning s line)) (λ u. lines_meaning meaning (n + 1) u lines) t h in
    (u.0, line-leads spells meaning s u.0 line (line-ok (line_meaning meaning s line) (n + 1) u.0 u.1), lines-lead spells meaning (n + 1) u.0 t lines u.2)

-- ---- what leads on is read

words-read : {S : Type 0} (meaning : Meaning S) (s t : S) (line : List ℕ) (words : List (List ℕ)) → is_clean line ≡ true → words_of line ≡ words → WordsLead meaning s words t → line_meaning meaning s line ≡ Ok t
unfolding line_meaning
words-read meaning s t line [] clean is leads = rw (clean, is) (ap (λ u. Ok u) (sym leads))
words-read meaning s t line (first ∷ words) clean is leads = rw (clean, is, ne_eqb (length (first ∷ words)) 0 (omega arith)) leads

-- lines that lead on are read
pub lines-read : AreSpelled → {S : Type 0} (meaning : Meaning S) (n : ℕ) (s t : S) (lines : List (List ℕ)) → LinesLead meaning s lines t → lines_meaning meaning n s lines ≡ Ok t
lines-read spells meaning n s t [] leads = ap (λ u. Ok u) (sym leads)
lines-read spells meaning n s t (line ∷ lines) (u, one, more) =
    let here : line_meaning meaning s line ≡ Ok u = words-read meaning s u line one.words one.clean ((spells.words line one.words).0 one.spelled) one.leads in
    rw here (lines-read spells meaning (n + 1) u t lines more)
