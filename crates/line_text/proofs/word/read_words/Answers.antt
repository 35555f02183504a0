-- Byte by byte.
use Rattle.std.proofs.Common.{◌≡◌, refl, ℕ, ◌≤◌, ◌-◌, ◌&&◌, true, List, get_or, length, take, drop, sym, ap, ◌∙◌, arith}
use Rattle.std.proofs.lemmas.List.{take_rest}
use Rattle.line_text.specs.Spelling.{is_plain}
use Rattle.line_text.specs.Words.{is_blank, is_comment}
use Rattle.line_text.proofs.Parts.{all-words, blank-clean, blank-more, both-clean, clean-kept, clean-more, comment-here, end-here, plain-more}
use Rattle.line_text.proofs.word.read_words.Goals.{then-is_blank+in_ok-push_part, else-is_blank+else-is_comment, else-loop-place-test, then-loop-place-test+else-is_common+else-is_blank+then-is_comment}
use Rattle.line_text.proofs.word.read_words.Goals as goal

pub loop-place-preserved-then-is_common : goal.loop-place-preserved-then-is_common
loop-place-preserved-then-is_common c =
    let s = c.loop-place.invariant in
    let within = c.loop-place-test.true in
    record {
      end = s.end;
      clean = clean-more c.args.line.now c.loop-place.place _ within (c.if-is_common.ensures.line refl) s.clean;
      words = plain-more c.args.line.now _ _ c.loop-place.place within (c.if-is_common.ensures.plain refl) s.words;
    }

pub loop-place-preserved : goal.loop-place-preserved
loop-place-preserved c =
    let line = c.args.line.now in
    let place = c.loop-place.place in
    let s = c.loop-place.invariant in
    let within = c.loop-place-test.true in
    elim c.if-is_blank.branch [
      | then-is_blank+in_ok-push_part w ↦
          let gap : is_blank (get_or line place 0) ≡ true = sym c.is_blank.ensures ∙ w.if-is_blank.true in
          rw (w.words-is, w.clean-is, w.start-is) (record {
            end = s.end;
            clean = clean-more line place _ within (blank-clean (get_or line place 0) gap) s.clean;
            words = blank-more line _ _ c.loop-place.start place within gap w.in_ok-push_part.ensures s.words;
          })
      | else-is_blank+else-is_comment w ↦
          let plain : is_plain (get_or line place 0) ≡ true = rw (sym c.is_blank.ensures ∙ w.if-is_blank.false, sym w.is_comment.ensures ∙ w.if-is_comment.false) refl in
          rw (w.words-is, w.clean-is, w.start-is) (record {
            end = s.end;
            clean = clean-kept line place _ _ within (ap (λ b. c.loop-place.clean && b) w.is_line_byte-clean.ensures) s.clean;
            words = plain-more line _ _ place within plain s.words;
          })
    ]

-- what is left of a line after a place
rest-is : (line : List ℕ) (end place : ℕ) → end ≡ place → take (length line - end) (drop end line) ≡ drop place line
rest-is line end place e = take_rest line end ∙ ap (λ n. drop n line) e

pub returns-clause-clean : goal.returns-clause-clean
returns-clause-clean c =
    let line = c.args.line.now in
    let place = c.loop-place.place in
    let s = c.loop-place.invariant in
    elim c.loop-place-test.branch [
      | else-loop-place-test w ↦
          let e : c.loop-place-test.end ≡ place = omega (arith, w.end-is, s.end, c.loop-place.auto.place-end, w.loop-place-test.false) in
          rw c.is_clean.ensures (both-clean line _ place _ s.clean (rest-is line _ place e))
      | then-loop-place-test+else-is_common+else-is_blank+then-is_comment w ↦
          rw c.is_clean.ensures (both-clean line _ place _ s.clean (rest-is line _ place w.end-is))
    ]

pub returns-clause-words : goal.returns-clause-words
returns-clause-words c =
    let line = c.args.line.now in
    let place = c.loop-place.place in
    let s = c.loop-place.invariant in
    elim c.loop-place-test.branch [
      | else-loop-place-test w ↦
          let past : length line ≤ place = omega (arith, w.loop-place-test.false) in
          let e : c.loop-place-test.end ≡ place = omega (arith, w.end-is, s.end, c.loop-place.auto.place-end, past) in
          let added = rw e at c.in_ok-push_part-2.ensures in
          all-words line _ _ c.loop-place.start place c.loop-place.auto.place-end (end-here line place past) added s.words
      | then-loop-place-test+else-is_common+else-is_blank+then-is_comment w ↦
          let here : is_comment (get_or line place 0) ≡ true = sym w.is_comment.ensures ∙ w.if-is_comment.true in
          let added = rw w.end-is at c.in_ok-push_part-2.ensures in
          all-words line _ _ c.loop-place.start place c.loop-place.auto.place-end (comment-here line place w.loop-place-test.true here) added s.words
    ]
