-- Why the jobs end with each status. This project's profile.
use Rattle.std.specs.Prelude.{◌≡◌, ℕ, Some, List, length}
use Rattle.job_ends.specs.Courses.{CauseBy}
use Rattle.job_ends.specs.Readings.{reading_in}
use Rattle.job_ends.specs.declared.status.Status.{Status}
use Rattle.job_ends.specs.declared.status.Status.TheVariants as status
use Rattle.trace_check.specs.Legal.{IsLegalTrace}
use Rattle.trace_check.specs.Progress.{difference_in}
use Rattle.trace_check.specs.declared.difference.Difference.{Difference}
use Rattle.trace_text.specs.reading.Reading.{trace_of}
use Rattle.trace_text.specs.TraceState.{TraceState, entries_of}

-- a trace is not legal: this is the number of its first record that is not the machine's
pub record DiffersAt (place : ℕ) (t : TraceState) : Type 0 where
  pub difference : Difference
  pub first : difference_in t ≡ Some difference
  pub place_is : difference.place ≡ place

-- the cause of each status by a trace that is checked
abbrev pub CheckedCause : TraceState → Status → Type 0
CheckedCause t (status.Legal entries) = IsLegalTrace t × (length (entries_of t) ≡ entries)
CheckedCause t (status.Illegal place) = DiffersAt place t
CheckedCause t _ = ⊥

-- the cause of each status by a trace that has to be legal for what is asked, which is then Ok
abbrev pub LegalCause : TraceState → Status → Type 0
LegalCause t status.Ok = IsLegalTrace t
LegalCause t (status.Illegal place) = DiffersAt place t
LegalCause t _ = ⊥

-- the cause of each status by the text of word 1 where it is checked: how it is refused, or the
-- trace that it is
abbrev pub CheckCause : List ℕ → Status → Type 0
CheckCause text wanted = CauseBy (reading_in 1 (trace_of text)) CheckedCause wanted

-- and where it is migrated
abbrev pub MigrateCause : List ℕ → Status → Type 0
MigrateCause text wanted = CauseBy (reading_in 1 (trace_of text)) LegalCause wanted
