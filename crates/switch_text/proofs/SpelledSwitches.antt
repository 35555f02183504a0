-- A text's reading is the switches that it spells.
-- for: read_switches
use Rattle.std.proofs.Common.{◌≡◌, refl, ℕ, List, Result, Ok, Err, subst}
use Rattle.std.specs.Prelude.{IfOk}
use Rattle.switch_text.specs.declared.switch.Switch.{Switch}
use Rattle.line_text.specs.Lines.{last_line_of, lines_of}
use Rattle.line_text.specs.Reading.{at_line, lines_meaning, reading_of, text_meaning}
use Rattle.line_text.specs.Spelling.{AreSpelled}
use Rattle.motion_history.specs.Setup.{Setup}
use Rattle.motion_history.specs.declared.refused.TextFault.{TextFault}
use Rattle.motion_history.specs.declared.refused.TextRefused.{TextRefused}
use Rattle.switch_text.specs.Reading.{ReadsBy, ending, letter, meaning, opening, switches_of}
use Rattle.switch_text.specs.Spelled.{IsSwitchText}
use Rattle.line_text.proofs.Leading.{lines-lead, lines-read}
use Rattle.line_text.proofs.Results.{bind_ok, line-ok}
use Rattle.machine_words.proofs.Refusals.{unrefused}

-- ---- the reading and the spelling

spelled-by : AreSpelled → (s : Setup) (text : List ℕ) (ss : List Switch) →
    switches_of s text ≡ Ok ss → IsSwitchText s text ss
unfolding switches_of reading_of text_meaning
spelled-by spells s text ss h =
    let begin = opening s in
    let last = bind_ok (lines_meaning meaning 0 begin (lines_of text))
    (λ t. at_line (last_line_of text) (ending t)) ss (unrefused letter _ ss h) in
    record {
      lines = lines_of text;
      last = last.0;
      spelled = (spells.lines text (lines_of text)).1 refl;
      leads = lines-lead spells meaning 0 begin last.0 (lines_of text) last.1;
      ends = line-ok (ending last.0) (last_line_of text) ss last.2;
    }

read-by : AreSpelled → (s : Setup) (text : List ℕ) (ss : List Switch) →
    IsSwitchText s text ss → switches_of s text ≡ Ok ss
unfolding switches_of reading_of text_meaning
read-by spells s text ss is =
    let begin = opening s in
    let lines : lines_of text ≡ is.lines = (spells.lines text is.lines).0 is.spelled in
    let e : lines_meaning meaning 0 begin (lines_of text) ≡ Ok is.last =
    rw lines (lines-read spells meaning 0 begin is.last is.lines is.leads) in
    rw (e, is.ends) refl

-- ---- the answers

pub found-so : AreSpelled → (s : Setup) (text : List ℕ) (result : Result (List Switch) TextFault) →
    ReadsBy (switches_of s text) result → IfOk result (IsSwitchText s text)
found-so spells s text (Ok ss) h = spelled-by spells s text ss h
found-so spells s text (Err fault) h = tt

pub only-so : AreSpelled → (s : Setup) (text : List ℕ) (ss : List Switch)
    (result : Result (List Switch) TextFault) → ReadsBy (switches_of s text) result →
    IsSwitchText s text ss → ReadsBy (Ok ss) result
only-so spells s text ss result h is =
    let P : Result (List Switch) TextRefused → Type 0 = λ r. ReadsBy r result in
    subst P (read-by spells s text ss is) h
