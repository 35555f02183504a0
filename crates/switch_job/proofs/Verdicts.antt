-- What a verdict on a trace gives.
-- for: switch_files
use Rattle.std.specs.Prelude.{◌≡◌, ◌↔◌, refl, ℕ, Option, Some, None, List, length}
use Rattle.std.proofs.Common.{◌∙◌, ap, sym}
use Rattle.switch_text.specs.declared.switch.Switch.{Switch}
use Rattle.trace_check.specs.Legal.{IsLegalTrace}
use Rattle.trace_check.specs.Progress.{difference_in}
use Rattle.trace_check.specs.Verdicts.{verdict_by, verdict_of}
use Rattle.trace_check.specs.declared.difference.Difference.{Difference}
use Rattle.trace_check.specs.declared.verdict.Verdict.{Verdict}
use Rattle.trace_check.specs.declared.verdict.Verdict.TheVariants as verdict
use Rattle.trace_text.specs.TraceState.{TraceState, entries_of}
use Rattle.switch_job.specs.Given.{TellsLegal}
use Rattle.switch_job.specs.Plans.{plan_of_switches, switched_plan}
use Rattle.trace_jobs.proofs.EndLaws.{illegal-by}

-- ---- the verdict by the first record that differs

tells-by : (t : TraceState) (v : Verdict) (n : ℕ) (o : Option Difference) → difference_in t ≡ o →
    v ≡ verdict_by n o → ((v ≡ verdict.Legal n) ↔ IsLegalTrace t) → TellsLegal t
tells-by t v n None d e law = (λ x. law.0 e, λ l. d)
tells-by t v n (Some x) d e law = (
  λ none. absurd (let bad : Some x ≡ None = sym d ∙ none in cc),
  λ l. absurd (let bad : verdict.IllegalAt x.place x.expected x.found ≡ verdict.Legal n =
      sym e ∙ law.1 l in cc),
)

-- the verdict says whether a trace is legal
pub tells-legal : (t : TraceState) (v : Verdict) → v ≡ verdict_of t →
    ((v ≡ verdict.Legal (length (entries_of t))) ↔ IsLegalTrace t) → TellsLegal t
unfolding verdict_of
tells-legal t v e law =
    tells-by t v (length (entries_of t)) (difference_in t) refl e law

legal-by : (n entries : ℕ) (o : Option Difference) → verdict.Legal entries ≡ verdict_by n o →
    o ≡ None
legal-by n entries None e = refl
legal-by n entries (Some d) e = absurd (cc)

-- a legal trace leads to the edges
pub plan-of-legal : (t : TraceState) (ss : List Switch) (entries : ℕ) →
    verdict.Legal entries ≡ verdict_of t → switched_plan t ss None ≡ plan_of_switches t ss
unfolding verdict_of
plan-of-legal t ss entries e =
    ap (switched_plan t ss) (sym (legal-by (length (entries_of t)) entries (difference_in t) e))

-- one that isn't leads to its first record that differs
pub plan-of-illegal : (t : TraceState) (ss : List Switch) (place : ℕ) (x y : List (List ℕ)) →
    verdict.IllegalAt place x y ≡ verdict_of t →
    switched_plan t ss (Some (record { place = place; expected = x; found = y })) ≡
    plan_of_switches t ss
unfolding verdict_of
plan-of-illegal t ss place x y e =
    ap (switched_plan t ss)
    (sym (illegal-by (length (entries_of t)) place x y (difference_in t) e))
