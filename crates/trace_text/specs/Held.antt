-- How far a trace is held by one who verifies it. This project's profile.
use Rattle.std.specs.Prelude.{◌≡◌, ◌&&◌, ℕ, Bool, true, nat_le, Result, Ok, Err, List, [], ◌++◌, length, map}
use Rattle.motion_history.specs.Entries.{cycles_of}
use Rattle.motion_history.specs.Setup.{Setup}
use Rattle.motion_history.specs.declared.refused.TextFault.{TextFault}
use Rattle.motion_history.specs.declared.refused.TextFault.TheVariants.{Refused, OutOfMemory}
use Rattle.motion_history.specs.declared.refused.TextRefused.{TextRefused}
use Rattle.trace_text.specs.TraceState.{TraceState, entry_of}
use Rattle.trace_text.specs.declared.found.FoundEntry.{FoundEntry}

-- whether entries keep within this many entries and cycles
abbrev pub are_within : ℕ → ℕ → List FoundEntry → Bool
are_within entries cycles es =
    nat_le (length es) entries && nat_le (cycles_of (map entry_of es)) cycles

-- whether entries keep within the room of a configuration
unfoldable pub keep_within : Setup → List FoundEntry → Bool
keep_within s es = are_within s.entries s.cycles es

-- a trace is held so: all of it, or all but the entries after some that don't keep within its room
pub record IsHeldOf (whole held : TraceState) : Type 0 where
  pub more : List FoundEntry
  pub is : whole ≡ record held { found = held.found ++ more }
  pub spent : keep_within held.config held.found ≡ true → more ≡ []

-- the answer is this reading: a trace that is held so, or the refusal; or memory ran out
abbrev pub ReadsHeld : Result TraceState TextRefused → Result TraceState TextFault → Type 0
ReadsHeld reading (Ok held) =
    (whole : TraceState) × (reading ≡ Ok whole) × IsHeldOf whole held
ReadsHeld reading (Err (Refused r)) = reading ≡ Err r
ReadsHeld reading (Err OutOfMemory) = Unit {0}
