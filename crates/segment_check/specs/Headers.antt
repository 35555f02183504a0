-- Texts of which each begins with the header that is reported for the one before. This project's
-- profile.
use Rattle.std.specs.Prelude.{◌≡◌, ℕ, Some, Ok, List, [], ◌∷◌, ◌++◌}
use Rattle.motion_history.specs.Entries.{Entry, cycles_of}
use Rattle.motion_history.specs.Setup.{Setup}
use Rattle.motion_kernel.specs.Segments.{counted_on}
use Rattle.segment_check.specs.Rows.{IsOnePast}
use Rattle.segment_check.specs.Verified.{IsFoundLegal}
use Rattle.segment_text.specs.declared.trace_segment.TraceSegment.{TraceSegment}
use Rattle.segment_text.specs.reading.Reading.{halves_of, trace_segment_of}

-- a text was found to be a legal trace segment of a configuration, and this header was reported
-- with which the next must begin
pub record IsFoundLegalText (s : Setup) (text next : List ℕ) : Type 0 where
  pub trace_segment : TraceSegment
  pub reading : trace_segment_of text ≡ Ok trace_segment
  pub config : trace_segment.trace.config ≡ s
  pub entries : ℕ
  pub found : IsFoundLegal trace_segment entries next

-- a text begins with this header: it stands before the first blank line
pub record BeginsWith (header text : List ℕ) : Type 0 where
  pub behind : List ℕ
  pub halves : halves_of text ≡ Some (header, behind)

-- such texts, of which the first begins with this header, and each later one with that which was
-- reported for the one before, and what they say after a past, each one's cycles counted on
abbrev pub TellByHeaders : Setup → List ℕ → List Entry → List (List ℕ) → List Entry → Type 0
TellByHeaders s header past [] whole = past ≡ whole
TellByHeaders s header past (text ∷ texts) whole =
    (next : List ℕ) × (t : IsFoundLegalText s text next) × BeginsWith header text ×
    TellByHeaders s next (past ++ counted_on (cycles_of past) t.found.next.history) texts whole

-- a text without a segment before it, and texts after it by their headers, and what they say
pub record TellFromOpening (s : Setup) (text : List ℕ) (texts : List (List ℕ)) (whole : List Entry)
    : Type 0 where
  pub next : List ℕ
  pub first : IsFoundLegalText s text next
  pub none_before : first.trace_segment.before.segments ≡ 0
  pub later : TellByHeaders s next (counted_on 0 first.found.next.history) texts whole

-- they say one past of the machine from opening on, and all laws hold of it
abbrev pub TextsTellPasts : Type 0
TextsTellPasts = (s : Setup) (text : List ℕ) (texts : List (List ℕ)) (whole : List Entry) →
    TellFromOpening s text texts whole → IsOnePast s whole
