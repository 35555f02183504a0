-- What a text that begins as a trace segment leads to. This project's profile.
use Rattle.std.specs.Prelude.{◌≡◌, ℕ, Result, Ok, Err, List, ◌++◌}
use Rattle.job_ends.specs.Plans.{Plan, refused_plan}
use Rattle.job_ends.specs.declared.status.Status.TheVariants as status
use Rattle.motion_history.specs.declared.refused.Rule.{Rule}
use Rattle.motion_history.specs.declared.refused.TextRefused.{TextRefused}
use Rattle.segment_check.specs.Verified.{IsVerified}
use Rattle.segment_check.specs.declared.flaw.Flaw.{Flaw}
use Rattle.segment_check.specs.declared.flaw.Flaw.TheVariants as flaw
use Rattle.segment_check.specs.declared.verifying.Verdict.{Verdict}
use Rattle.segment_check.specs.declared.verifying.Verdict.TheVariants as verdict
use Rattle.segment_text.specs.declared.trace_segment.TraceSegment.{TraceSegment}
use Rattle.segment_text.specs.reading.Reading.{letter, trace_segment_of}
use Rattle.trace_jobs.specs.Lines.{legal_line}
use Rattle.trace_jobs.specs.Plans.{illegal_plan}

-- the rule of a trace segment that a flaw of its header breaks
abbrev pub number_of : Flaw → ℕ
number_of flaw.Counts = 7
number_of flaw.Invariant = 8
number_of flaw.Owners = 9
number_of flaw.Commands = 10
number_of flaw.Kinds = 11
number_of flaw.States = 12
number_of flaw.Orders = 13
number_of flaw.Opening = 14

abbrev pub beginning_rule : Flaw → Rule
beginning_rule f = record { letter = letter; number = number_of f }

-- where it is reported: counts, and that nothing was before, at the first record; else at 0, since
-- no record is to blame alone
abbrev pub beginning_place : Flaw → ℕ
beginning_place flaw.Counts = 1
beginning_place flaw.Opening = 1
beginning_place f = 0

-- a trace segment that breaks it is refused there
abbrev pub no_beginning : Flaw → TextRefused
no_beginning f = record { place = beginning_place f; rule = beginning_rule f }

-- a legal trace segment is reported as a legal trace, and after the line stands the header with
-- which the next trace segment must begin, or nothing where that can't be reported
abbrev pub legal_plan : ℕ → List ℕ → Plan
legal_plan entries next =
    record { status = status.Legal entries; text = legal_line entries ++ next }

-- what a trace segment leads to by its verdict
abbrev pub plan_of_verdict : List ℕ → Verdict → Plan
plan_of_verdict name (verdict.NoBeginning f) = refused_plan 1 name (no_beginning f)
plan_of_verdict name (verdict.Legal entries next) = legal_plan entries next.items
plan_of_verdict name (verdict.IllegalAt difference) = illegal_plan difference

-- a trace segment was verified by a verdict, which leads to this plan
pub record IsPlanByVerdict (name : List ℕ) (p : TraceSegment) (plan : Plan) : Type 0 where
  pub verdict : Verdict
  pub verified : IsVerified p verdict
  pub plan_is : plan ≡ plan_of_verdict name verdict

-- what the reading of a text leads to: it is refused, or it is a trace segment that was verified
abbrev pub IsPlanOfReading : List ℕ → Result TraceSegment TextRefused → Plan → Type 0
IsPlanOfReading name (Ok p) plan = IsPlanByVerdict name p plan
IsPlanOfReading name (Err r) plan = plan ≡ refused_plan 1 name r

-- what the text of a file leads to where it begins as a trace segment
abbrev pub IsPlanOf : List ℕ → List ℕ → Plan → Type 0
IsPlanOf name text plan = IsPlanOfReading name (trace_segment_of text) plan
