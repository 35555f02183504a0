-- Each status of the jobs comes of its cause.
-- for: check_text, check_trace, migrate_text and others
use Rattle.std.specs.Prelude.{◌≡◌, ◌↔◌, refl, ℕ, true, false, Option, Some, None, Result, Ok, Err, List, length}
use Rattle.std.proofs.Common.{◌∙◌, ap, sym}
use Rattle.job_ends.proofs.PlanLaws.{whole}
use Rattle.job_ends.specs.Causes.{EndsFor, is_fault, is_told}
use Rattle.job_ends.specs.Courses.{CauseBy}
use Rattle.job_ends.specs.Ends.{EndsBy}
use Rattle.job_ends.specs.Plans.{plan_of_reading}
use Rattle.job_ends.specs.Readings.{reading_in}
use Rattle.job_ends.specs.declared.status.Status.{Status}
use Rattle.job_ends.specs.declared.status.Status.TheVariants as status
use Rattle.motion_history.specs.declared.refused.TextRefused.{TextRefused}
use Rattle.trace_check.specs.Legal.{IsLegalTrace}
use Rattle.trace_check.specs.Progress.{difference_in}
use Rattle.trace_check.specs.declared.difference.Difference.{Difference}
use Rattle.trace_text.specs.reading.Reading.{trace_of}
use Rattle.trace_text.specs.TraceState.{TraceState, entries_of}
use Rattle.trace_text.specs.writing.Writes.{Output}
use Rattle.trace_jobs.specs.Causes.{CheckCause, CheckedCause, LegalCause, MigrateCause}
use Rattle.trace_jobs.specs.Verified.{IsVerified, JudgesBy, tells_illegal, tells_legal}
use Rattle.trace_jobs.specs.Plans.{check_plan, verified_plan, migrate_plan, migrated_plan, plan_of_check, plan_of_migrate}

-- ---- that no record of a trace differs is reported of those that are legal, and of no others

-- what a plan gives by the first record that differs
pub record TellsBy (t : TraceState) (p : Status) : Type 0 where
  pub legal : difference_in t ≡ None → tells_legal p ≡ true
  pub illegal : (d : Difference) → difference_in t ≡ Some d → tells_illegal p ≡ true

-- legality is reported of the trace that a text is
abbrev pub LegalIsTold : List ℕ → Type 0
LegalIsTold text =
    (t : TraceState) → trace_of text ≡ Ok t → (difference_in t ≡ None) ↔ IsLegalTrace t

told-by : (t : TraceState) (p s : Status) → s ≡ p → TellsBy t p → IsVerified s t →
    (o : Option Difference) → difference_in t ≡ o → (difference_in t ≡ None) ↔ IsLegalTrace t
told-by t p s e tells verified None d =
    (λ n. verified.legal (ap tells_legal e ∙ tells.legal n), λ l. d)
told-by t p s e tells verified (Some x) d = (
  λ n. absurd (let bad : Some x ≡ None = sym d ∙ n in cc),
  λ l. absurd (verified.illegal (ap tells_illegal e ∙ tells.illegal x d) l),
)

check-tells : (name text : List ℕ) (t : TraceState) → trace_of text ≡ Ok t →
    TellsBy t (check_plan name text).status
check-tells name text t is = record {
  legal = λ e. ap (λ x. tells_legal (plan_of_reading plan_of_check 1 name x).status) is
      ∙ ap (λ o. tells_legal (verified_plan (length (entries_of t)) o).status) e;
  illegal = λ d e. ap (λ x. tells_illegal (plan_of_reading plan_of_check 1 name x).status) is
      ∙ ap (λ o. tells_illegal (verified_plan (length (entries_of t)) o).status) e;
}

migrate-tells : (name text : List ℕ) (t : TraceState) → trace_of text ≡ Ok t →
    TellsBy t (migrate_plan name text).status
migrate-tells name text t is = record {
  legal = λ e. ap (λ x. tells_legal (plan_of_reading plan_of_migrate 1 name x).status) is
      ∙ ap (λ o. tells_legal (migrated_plan t o).status) e;
  illegal = λ d e. ap (λ x. tells_illegal (plan_of_reading plan_of_migrate 1 name x).status) is
      ∙ ap (λ o. tells_illegal (migrated_plan t o).status) e;
}

-- ---- a text that is checked

told-verified : (n : ℕ) (o : Option Difference) → is_told (verified_plan n o).status ≡ true
told-verified n None = refl
told-verified n (Some d) = refl

check-told : (name : List ℕ) (reading : Result TraceState TextRefused) →
    is_told (plan_of_reading plan_of_check 1 name reading).status ≡ true
check-told name (Ok t) = told-verified (length (entries_of t)) (difference_in t)
check-told name (Err r) = refl

verified-caused : (t : TraceState) → ((difference_in t ≡ None) ↔ IsLegalTrace t) →
    (o : Option Difference) → difference_in t ≡ o →
    CheckedCause t (verified_plan (length (entries_of t)) o).status
verified-caused t law None e = (law.0 e, refl)
verified-caused t law (Some d) e = record { difference = d; first = e; place_is = refl }

check-caused : (name text : List ℕ) → LegalIsTold text → (reading : Result TraceState TextRefused) →
    trace_of text ≡ reading → CauseBy (reading_in 1 reading) CheckedCause
    (plan_of_reading plan_of_check 1 name reading).status
check-caused name text law (Ok t) is = verified-caused t (law t is) (difference_in t) refl
check-caused name text law (Err r) is = refl

verified-alone : (t : TraceState) → ((difference_in t ≡ None) ↔ IsLegalTrace t) → (other : Status) →
    CheckedCause t other → (plan_of_check t).status ≡ other
verified-alone t law (status.Legal n) h =
    ap (λ o. (verified_plan (length (entries_of t)) o).status) (law.1 h.0) ∙ ap status.Legal h.1
verified-alone t law (status.Illegal place) h =
    ap (λ o. (verified_plan (length (entries_of t)) o).status) h.first
    ∙ ap status.Illegal h.place_is
verified-alone t law other h = absurd h

check-alone : (name text : List ℕ) → LegalIsTold text → (reading : Result TraceState TextRefused) →
    trace_of text ≡ reading → (other : Status) →
    CauseBy (reading_in 1 reading) CheckedCause other →
    (plan_of_reading plan_of_check 1 name reading).status ≡ other
check-alone name text law (Ok t) is other h = verified-alone t (law t is) other h
check-alone name text law (Err r) is other h = h

pub check-for : (name text : List ℕ) (old new : Output) (s : Status) →
    EndsBy old new (check_plan name text) s → JudgesBy (λ t. trace_of text ≡ Ok t) s →
    EndsFor old new (check_plan name text) (CheckCause text) s
check-for name text old new s e verified = record {
  ends = e;
  told = check-told name (trace_of text);
  caused = λ f. check-caused name text (law f) (trace_of text) refl;
  alone = λ f. check-alone name text (law f) (trace_of text) refl;
}
  where
    law : is_fault s ≡ false → LegalIsTold text
    law f = λ t is. told-by t _ s (whole old new _ s e f).0 (check-tells name text t is)
        (verified t is) (difference_in t) refl

-- ---- a text that is migrated

told-migrated : (t : TraceState) (o : Option Difference) → is_told (migrated_plan t o).status ≡ true
told-migrated t None = refl
told-migrated t (Some d) = refl

migrate-told : (name : List ℕ) (reading : Result TraceState TextRefused) →
    is_told (plan_of_reading plan_of_migrate 1 name reading).status ≡ true
migrate-told name (Ok t) = told-migrated t (difference_in t)
migrate-told name (Err r) = refl

migrated-caused : (t : TraceState) → ((difference_in t ≡ None) ↔ IsLegalTrace t) →
    (o : Option Difference) → difference_in t ≡ o → LegalCause t (migrated_plan t o).status
migrated-caused t law None e = law.0 e
migrated-caused t law (Some d) e = record { difference = d; first = e; place_is = refl }

migrate-caused : (name text : List ℕ) → LegalIsTold text →
    (reading : Result TraceState TextRefused) → trace_of text ≡ reading →
    CauseBy (reading_in 1 reading) LegalCause
    (plan_of_reading plan_of_migrate 1 name reading).status
migrate-caused name text law (Ok t) is = migrated-caused t (law t is) (difference_in t) refl
migrate-caused name text law (Err r) is = refl

migrated-alone : (t : TraceState) → ((difference_in t ≡ None) ↔ IsLegalTrace t) → (other : Status) →
    LegalCause t other → (plan_of_migrate t).status ≡ other
migrated-alone t law status.Ok h = ap (λ o. (migrated_plan t o).status) (law.1 h)
migrated-alone t law (status.Illegal place) h =
    ap (λ o. (migrated_plan t o).status) h.first ∙ ap status.Illegal h.place_is
migrated-alone t law other h = absurd h

migrate-alone : (name text : List ℕ) → LegalIsTold text →
    (reading : Result TraceState TextRefused) → trace_of text ≡ reading → (other : Status) →
    CauseBy (reading_in 1 reading) LegalCause other →
    (plan_of_reading plan_of_migrate 1 name reading).status ≡ other
migrate-alone name text law (Ok t) is other h = migrated-alone t (law t is) other h
migrate-alone name text law (Err r) is other h = h

pub migrate-for : (name text : List ℕ) (old new : Output) (s : Status) →
    EndsBy old new (migrate_plan name text) s → JudgesBy (λ t. trace_of text ≡ Ok t) s →
    EndsFor old new (migrate_plan name text) (MigrateCause text) s
migrate-for name text old new s e verified = record {
  ends = e;
  told = migrate-told name (trace_of text);
  caused = λ f. migrate-caused name text (law f) (trace_of text) refl;
  alone = λ f. migrate-alone name text (law f) (trace_of text) refl;
}
  where
    law : is_fault s ≡ false → LegalIsTold text
    law f = λ t is. told-by t _ s (whole old new _ s e f).0 (migrate-tells name text t is)
        (verified t is) (difference_in t) refl
