-- A text's reading is the program that it spells.
-- for: read_program
use Rattle.std.proofs.Common.{◌≡◌, refl, ℕ, List, Result, Ok, Err, subst}
use Rattle.std.specs.Prelude.{IfOk}
use Rattle.line_text.specs.Lines.{last_line_of, lines_of}
use Rattle.line_text.specs.Reading.{at_line, lines_meaning, reading_of, text_meaning}
use Rattle.line_text.specs.Spelling.{AreSpelled}
use Rattle.motion_history.specs.Setup.{Setup}
use Rattle.motion_history.specs.declared.refused.TraceVersion.{TraceVersion}
use Rattle.motion_history.specs.declared.refused.TextFault.{TextFault}
use Rattle.motion_history.specs.declared.refused.TextRefused.{TextRefused}
use Rattle.plc_program.specs.Reading.{Outcome, ReadsBy, ending, letter, meaning, opening, program_of}
use Rattle.plc_program.specs.Spelled.{IsProgramText}
use Rattle.plc_program.specs.declared.program.Instruction.{Instruction}
use Rattle.line_text.proofs.Leading.{lines-lead, lines-read}
use Rattle.line_text.proofs.Results.{bind_ok, line-ok}
use Rattle.machine_words.proofs.Refusals.{unrefused}

-- ---- the reading and the spelling

spelled-by : AreSpelled → (machine : TraceVersion) (cycle_us : ℕ) (first : Setup) (text : List ℕ) (program : List (List Instruction)) (after : Setup) →
    program_of machine cycle_us first text ≡ Ok (record { program = program; setup = after }) → IsProgramText machine cycle_us first text program after
unfolding program_of reading_of text_meaning
spelled-by spells machine cycle_us first text program after h =
    let begin = opening machine cycle_us first in
    let out : Outcome = record { program = program; setup = after } in
    let last = bind_ok (lines_meaning meaning 0 begin (lines_of text)) (λ t. at_line (last_line_of text) (ending t)) out (unrefused letter _ out h) in
    record {
      lines = lines_of text;
      last = last.0;
      spelled = (spells.lines text (lines_of text)).1 refl;
      leads = lines-lead spells meaning 0 begin last.0 (lines_of text) last.1;
      ends = line-ok (ending last.0) (last_line_of text) out last.2;
    }

read-by : AreSpelled → (machine : TraceVersion) (cycle_us : ℕ) (first : Setup) (text : List ℕ) (program : List (List Instruction)) (after : Setup) →
    IsProgramText machine cycle_us first text program after → program_of machine cycle_us first text ≡ Ok (record { program = program; setup = after })
unfolding program_of reading_of text_meaning
read-by spells machine cycle_us first text program after is =
    let begin = opening machine cycle_us first in
    let lines : lines_of text ≡ is.lines = (spells.lines text is.lines).0 is.spelled in
    let e : lines_meaning meaning 0 begin (lines_of text) ≡ Ok is.last = rw lines (lines-read spells meaning 0 begin is.last is.lines is.leads) in
    rw (e, is.ends) refl

-- ---- the answers

pub found-so : AreSpelled → (machine : TraceVersion) (cycle_us : ℕ) (first : Setup) (text : List ℕ) (result : Result (List (List Instruction)) TextFault) (after : Setup) →
    ReadsBy (program_of machine cycle_us first text) result after → IfOk result (λ p. IsProgramText machine cycle_us first text p after)
found-so spells machine cycle_us first text (Ok program) after h = spelled-by spells machine cycle_us first text program after h
found-so spells machine cycle_us first text (Err fault) after h = tt

pub only-so : AreSpelled → (machine : TraceVersion) (cycle_us : ℕ) (first : Setup) (text : List ℕ) (program : List (List Instruction)) (last : Setup) (result : Result (List (List Instruction)) TextFault)
    (after : Setup) → ReadsBy (program_of machine cycle_us first text) result after → IsProgramText machine cycle_us first text program last →
    ReadsBy (Ok (record { program = program; setup = last })) result after
only-so spells machine cycle_us first text program last result after h is =
    let P : Result Outcome TextRefused → Type 0 = λ r. ReadsBy r result after in subst P (read-by spells machine cycle_us first text program last is) h
