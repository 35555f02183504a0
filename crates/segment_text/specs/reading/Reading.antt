-- The trace segment that a text is, and the first line that breaks a rule. This project's profile.
use Rattle.std.specs.Prelude.{◌≡◌, ℕ, ◌+◌, ◌==◌, ◌&&◌, if◌then◌else◌, Option, Some, None, option_and_then, Result, Ok, Err, List, [], ◌∷◌, drop, length, take}
use Rattle.std.specs.Option.{ok_or}
use Rattle.line_text.specs.Lines.{lines_of}
use Rattle.line_text.specs.Reading.{◌>>=◌, at_line}
use Rattle.line_text.specs.Rules.{broken_unless}
use Rattle.line_text.specs.declared.reader.LineRefused.{LineRefused}
use Rattle.line_text.specs.declared.reader.LinesFault.{LinesFault}
use Rattle.line_text.specs.declared.reader.LinesFault.TheVariants as lines
use Rattle.machine_words.specs.Rules.{refused_by}
use Rattle.motion_history.specs.Setup.{Setup}
use Rattle.motion_history.specs.declared.refused.TextFault.{TextFault}
use Rattle.motion_history.specs.declared.refused.TextFault.TheVariants.{OutOfMemory, Refused}
use Rattle.motion_history.specs.declared.refused.TextRefused.{TextRefused}
use Rattle.motion_kernel.specs.Machine.{Machine}
use Rattle.motion_kernel.specs.declared.segment.Before.{Before}
use Rattle.segment_text.specs.declared.trace_segment.TraceSegment.{TraceSegment}
use Rattle.segment_text.specs.reading.Befores.{before_of}
use Rattle.segment_text.specs.reading.Lines.{fields_in, is_whole, lines_meaning, unread}
use Rattle.segment_text.specs.reading.RuleNumbers.{no_blank_line, no_trace_segment, too_short}
use Rattle.trace_text.specs.reading.Reading.{trace_of}

-- where a blank line ends that ends the header of a text, this many bytes in: an LF right after
-- another
abbrev pub blank_line_from : ℕ → List ℕ → Option ℕ
blank_line_from n [] = None
blank_line_from n (a ∷ []) = None
blank_line_from n (a ∷ b ∷ more) =
    if (a == 10) && (b == 10) then Some (n + 1) else blank_line_from (n + 1) (b ∷ more)

-- the header of a text, up to the LF before the first blank line, and what stands after that line
unfoldable pub halves_of : List ℕ → Option (List ℕ × List ℕ)
halves_of text =
    option_and_then (λ end. Some (take end text, drop (end + 1) text)) (blank_line_from 0 text)

-- what was before a trace segment, by the first line of its header
unfoldable pub before_meaning : List ℕ → Result Before LineRefused
before_meaning line = at_line 1 (ok_or (before_of (fields_in line)) no_trace_segment)

-- the machine with which a trace segment begins, by the lines after the first
unfoldable pub machine_meaning : Setup → List (List ℕ) → Result Machine LineRefused
machine_meaning s more = do
  m ← lines_meaning s 1 (unread s) more
  _ ← at_line (length more + 1) (broken_unless (is_whole s m) too_short)
  Ok m

-- what was before a trace segment and the machine with which it begins, by the lines of its header
unfoldable pub segment_header_meaning : Setup → List (List ℕ) → Result (Before × Machine) LineRefused
segment_header_meaning s [] = Err (record { line = 1; rule = no_trace_segment })
segment_header_meaning s (first ∷ more) = do
  b ← before_meaning first
  m ← machine_meaning s more
  Ok (b, m)

-- a rule of a trace segment is reported by the letter G
abbrev pub letter : ℕ
letter = 71

-- what the header of a trace segment says of a machine of a configuration, or its first line that
-- breaks a rule, and that rule
unfoldable pub header_of : Setup → List ℕ → Result (Before × Machine) TextRefused
header_of s header = refused_by letter (segment_header_meaning s (lines_of header))

-- the parts of a text before the blank line and after it, which the text as a whole may lack
unfoldable pub parts_of : List ℕ → Result (List ℕ × List ℕ) TextRefused
parts_of text =
    refused_by letter (at_line 0 (ok_or (halves_of text) no_blank_line))

-- the trace segment that a text is: its trace is read first, since its header is that of the
-- trace's machine
unfoldable pub trace_segment_of : List ℕ → Result TraceSegment TextRefused
trace_segment_of text = do
  h ← parts_of text
  t ← trace_of h.1
  b ← header_of t.config h.0
  Ok (record { before = b.0; machine = b.1; trace = t })

-- the answer is this reading: the value, or the refusal; or memory ran out
abbrev pub ReadsBy : {A : Type 0} → Result A TextRefused → Result A TextFault → Type 0
ReadsBy reading (Ok value) = reading ≡ Ok value
ReadsBy reading (Err (Refused r)) = reading ≡ Err r
ReadsBy reading (Err OutOfMemory) = Unit {0}

-- the answer of lines is this reading: the value, or the place; or memory ran out
abbrev pub ReadsLines : {A : Type 0} → Result A LineRefused → Result A LinesFault → Type 0
ReadsLines reading (Ok value) = reading ≡ Ok value
ReadsLines reading (Err (lines.Refused place)) = reading ≡ Err place
ReadsLines reading (Err lines.OutOfMemory) = Unit {0}
