-- Laws of runs: one after another, and where a reader has stopped.
-- for: check_text
use Rattle.std.proofs.Common.{◌≡◌, ℕ, zero, suc, true, Result, Ok, Err, OnOk, List, [], ◌∷◌, ◌++◌, refl, sym, ap, ◌∙◌}
use Rattle.st_check.specs.Reading.{Stand, run, step}
use Rattle.st_tokens.specs.Tokens.{Placed, last_line_from, tokens_from, tokens_of}
use Rattle.st_tokens.specs.declared.token.Token.TheVariants.{End}

pub run_append : (s : Stand) (before behind : List Placed) → run s (before ++ behind) ≡ run (run s before) behind
run_append s [] behind = refl
run_append s (p ∷ before) behind = run_append (step s p) before behind

step_stopped : (s : Stand) (p : Placed) → s.stopped ≡ true → step s p ≡ s
unfolding step
step_stopped s p h = rw h refl

pub run_stopped : (s : Stand) (tokens : List Placed) → s.stopped ≡ true → run s tokens ≡ s
run_stopped s [] h = refl
run_stopped s (p ∷ tokens) h = ap (λ t. run t tokens) (step_stopped s p h) ∙ run_stopped s tokens h

-- a reader that has stopped stands where the whole text leads
pub stopped_early : (s t : Stand) (left : List Placed) (text : List ℕ) → s.stopped ≡ true → run s left ≡ run t (tokens_from 1 0 text) → s ≡ run t (tokens_of text)
unfolding tokens_of
stopped_early s t left text stop leads =
    let last : List Placed = record { token = End; line = last_line_from 1 1 text } ∷ [] in
    sym (run_append t (tokens_from 1 0 text) last ∙ ap (λ u. run u last) (sym leads ∙ run_stopped s left stop) ∙ run_stopped s last stop)

no_tokens : (line behind : ℕ) → tokens_from line behind [] ≡ []
no_tokens line zero = refl
no_tokens line (suc n) = refl

-- after the last byte the text's end is taken
pub finished : (s t : Stand) (line behind last : ℕ) (left text : List ℕ) → left ≡ [] →
    run s (tokens_from line behind left) ≡ run t (tokens_from 1 0 text) → last_line_from line last left ≡ last_line_from 1 1 text →
    step s (record { token = End; line = last }) ≡ run t (tokens_of text)
unfolding tokens_of
finished s t line behind last left text none leads ends =
    let here : s ≡ run t (tokens_from 1 0 text) =
    ap (run s) (sym (ap (tokens_from line behind) none ∙ no_tokens line behind)) ∙ leads in
    let end : last ≡ last_line_from 1 1 text = ap (last_line_from line last) (sym none) ∙ ends in
    ap (λ u. step u (record { token = End; line = last })) here ∙
    ap (λ n. step (run t (tokens_from 1 0 text)) (record { token = End; line = n })) end ∙
    sym (run_append t (tokens_from 1 0 text) (record { token = End; line = last_line_from 1 1 text } ∷ []))

-- what an answer that is Ok gives, says what follows
pub on_ok_then : {A E : Type 0} (r : Result A E) (P Q : Type 0) → (P → Q) → OnOk r P → OnOk r Q
on_ok_then (Ok x) P Q then_so h = then_so h
on_ok_then (Err e) P Q then_so h = tt
