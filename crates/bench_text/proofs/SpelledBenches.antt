-- A text's reading is the bench that it spells.
-- for: read_bench
use Rattle.std.proofs.Common.{◌≡◌, refl, ℕ, List, Result, Ok, Err, subst}
use Rattle.std.specs.Prelude.{IfOk}
use Rattle.line_text.specs.Lines.{last_line_of, lines_of}
use Rattle.line_text.specs.Reading.{at_line, lines_meaning, reading_of, text_meaning}
use Rattle.line_text.specs.Spelling.{AreSpelled}
use Rattle.motion_history.specs.declared.refused.TextFault.{TextFault}
use Rattle.motion_history.specs.declared.refused.TextRefused.{TextRefused}
use Rattle.bench_text.specs.BenchState.{BenchState}
use Rattle.bench_text.specs.Reading.{ReadsBy, bench_of, ending, letter, meaning, opening}
use Rattle.bench_text.specs.Spelled.{IsBenchOf}
use Rattle.line_text.proofs.Leading.{lines-lead, lines-read}
use Rattle.line_text.proofs.Results.{bind_ok, line-ok}
use Rattle.machine_words.proofs.Refusals.{unrefused}

-- ---- the reading and the spelling

spelled-by : AreSpelled → (text : List ℕ) (bench : BenchState) → bench_of text ≡ Ok bench → IsBenchOf text bench
unfolding bench_of reading_of text_meaning
spelled-by spells text bench h =
    let last = bind_ok (lines_meaning meaning 0 opening (lines_of text)) (λ t. at_line (last_line_of text) (ending t)) bench (unrefused letter _ bench h) in
    record {
      lines = lines_of text;
      last = last.0;
      spelled = (spells.lines text (lines_of text)).1 refl;
      leads = lines-lead spells meaning 0 opening last.0 (lines_of text) last.1;
      ends = line-ok (ending last.0) (last_line_of text) bench last.2;
    }

read-by : AreSpelled → (text : List ℕ) (bench : BenchState) → IsBenchOf text bench → bench_of text ≡ Ok bench
unfolding bench_of reading_of text_meaning
read-by spells text bench is =
    let lines : lines_of text ≡ is.lines = (spells.lines text is.lines).0 is.spelled in
    let e : lines_meaning meaning 0 opening (lines_of text) ≡ Ok is.last = rw lines (lines-read spells meaning 0 opening is.last is.lines is.leads) in
    rw (e, is.ends) refl

-- ---- the answers

pub found-so : AreSpelled → (text : List ℕ) (result : Result BenchState TextFault) → ReadsBy (bench_of text) result → IfOk result (IsBenchOf text)
found-so spells text (Ok bench) h = spelled-by spells text bench h
found-so spells text (Err fault) h = tt

pub only-so : AreSpelled → (text : List ℕ) (bench : BenchState) (result : Result BenchState TextFault) → ReadsBy (bench_of text) result → IsBenchOf text bench → ReadsBy (Ok bench) result
only-so spells text bench result h is = let P : Result BenchState TextRefused → Type 0 = λ r. ReadsBy r result in subst P (read-by spells text bench is) h
