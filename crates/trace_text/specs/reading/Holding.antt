-- How far a trace is held while it is read. This project's profile.
use Rattle.std.specs.Prelude.{◌≡◌, ℕ, Bool, true, false, Option, Some, None, Result, Ok, Err, List, [], ◌++◌, length}
use Rattle.line_text.specs.declared.reader.LineFault.{LineFault}
use Rattle.line_text.specs.declared.reader.LineFault.TheVariants as line
use Rattle.line_text.specs.declared.reader.LinesFault.{LinesFault}
use Rattle.line_text.specs.declared.reader.LinesFault.TheVariants as lines
use Rattle.trace_text.specs.Held.{keep_within}
use Rattle.trace_text.specs.reading.Reading.{records_meaning}
use Rattle.trace_text.specs.reading.SoFar.{SoFar}
use Rattle.trace_text.specs.declared.found.FoundEntry.{FoundEntry}

-- a trace begins with these entries, and stands else where a reader stands
pub record BeginsWith (first : List FoundEntry) (whole now : SoFar) : Type 0 where
  pub more : List FoundEntry
  pub is : whole ≡ record now { found = first ++ more }

-- a reader stands where a trace does, or its first entries are held apart
abbrev pub StandsAt : SoFar → SoFar → Option (List FoundEntry) → Type 0
StandsAt whole now None = whole ≡ now
StandsAt whole now (Some first) = BeginsWith first whole now

-- a record is taken: so the reader stands where it leads, or the rule is reported; or memory ran
-- out
abbrev pub TakesApart : Result SoFar ℕ → SoFar → Option (List FoundEntry) →
    Result (Unit {0}) LineFault → Type 0
TakesApart meaning now first (Ok u) =
    (whole : SoFar) × (meaning ≡ Ok whole) × StandsAt whole now first
TakesApart meaning now first (Err (line.Rule number)) = meaning ≡ Err number
TakesApart meaning now first (Err line.OutOfMemory) = Unit {0}

-- records are taken: so the reader stands where they lead, and their number is reported; or the
-- first that breaks a rule is reported; or memory ran out
abbrev pub TakesRecords : List (List (List ℕ)) → SoFar → SoFar → Option (List FoundEntry) →
    Result ℕ LinesFault → Type 0
TakesRecords records old new first (Ok last) =
    (whole : SoFar) × (records_meaning 0 old records ≡ Ok whole) × StandsAt whole new first ×
    (last ≡ length records)
TakesRecords records old new first (Err (lines.Refused place)) =
    records_meaning 0 old records ≡ Err place
TakesRecords records old new first (Err lines.OutOfMemory) = Unit {0}

-- a trace is held by a reader: all of it, or all but the entries after some that don't keep within
-- its room; where it is to be held whole, it is
pub record IsHeldSoFar (within_room : Bool) (whole now : SoFar) : Type 0 where
  pub more : List FoundEntry
  pub is : whole ≡ record now { found = now.found ++ more }
  pub spent : keep_within now.setup now.found ≡ true → more ≡ []
  pub all : within_room ≡ false → more ≡ []

-- records are taken: so the trace to which they lead is held, and their number is reported; or the
-- first that breaks a rule is reported; or memory ran out
abbrev pub HoldsRecords : Bool → List (List (List ℕ)) → SoFar → SoFar → Result ℕ LinesFault → Type 0
HoldsRecords within_room records old new (Ok last) =
    (whole : SoFar) × (records_meaning 0 old records ≡ Ok whole) ×
    IsHeldSoFar within_room whole new × (last ≡ length records)
HoldsRecords within_room records old new (Err (lines.Refused place)) =
    records_meaning 0 old records ≡ Err place
HoldsRecords within_room records old new (Err lines.OutOfMemory) = Unit {0}
