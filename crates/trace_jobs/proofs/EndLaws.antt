-- How the jobs end, from what their parts did.
-- for: check_text, check_trace, migrate_text and others
use Rattle.std.specs.Prelude.{◌≡◌, ◌↔◌, refl, ℕ, Bool, true, false, Option, Some, None, Result, Ok, Err, List, length}
use Rattle.std.specs.declared.alloc.AllocError.{AllocError}
use Rattle.std.proofs.Common.{Vec, Global, ◌∙◌, sym, ap, subst}
use Rattle.job_ends.specs.Ends.{EndsBy, SaysLine, status_by}
use Rattle.job_ends.specs.declared.status.Status.{Status}
use Rattle.job_ends.specs.declared.status.Status.TheVariants as status
use Rattle.motion_history.specs.declared.refused.TextFault.{TextFault}
use Rattle.motion_history.specs.declared.refused.TextFault.TheVariants.{Refused}
use Rattle.motion_history.specs.declared.refused.TextRefused.{TextRefused}
use Rattle.trace_check.specs.Legal.{IsLegalTrace}
use Rattle.trace_check.specs.Progress.{difference_in}
use Rattle.trace_check.specs.Verdicts.{verdict_by, verdict_of}
use Rattle.trace_check.specs.declared.difference.Difference.{Difference}
use Rattle.trace_check.specs.declared.verdict.Verdict.{Verdict}
use Rattle.trace_check.specs.declared.verdict.Verdict.TheVariants as verdict
use Rattle.trace_text.specs.Held.{ReadsHeld}
use Rattle.trace_text.specs.reading.Reading.{trace_of}
use Rattle.trace_text.specs.TraceState.{TraceState, entries_of}
use Rattle.trace_text.specs.writing.Writes.{Output}
use Rattle.trace_text.specs.declared.writing.write.TraceFault.{TraceFault}
use Rattle.trace_text.specs.declared.writing.write.TraceFault.TheVariants as fault
use Rattle.trace_jobs.proofs.CauseLaws.{check-for, migrate-for}
use Rattle.trace_jobs.proofs.MigratedLaws.{migrated-of}
use Rattle.trace_jobs.specs.Ends.{EndsByCheck, EndsByMigrate}
use Rattle.trace_jobs.specs.Verified.{IsReadAgain, JudgesBy, tells_illegal, tells_legal}
use Rattle.trace_jobs.specs.Plans.{check_plan, verified_plan, migrate_plan, migrated_plan, plan_of_check, plan_of_migrate}

-- a trace that was replayed has this plan
pub checked : (t : TraceState) (o : Option Difference) → difference_in t ≡ o →
    plan_of_check t ≡ verified_plan (length (entries_of t)) o
checked t o e = ap (verified_plan (length (entries_of t))) e

pub migrating : (t : TraceState) (o : Option Difference) → difference_in t ≡ o →
    plan_of_migrate t ≡ migrated_plan t o
migrating t o e = ap (migrated_plan t) e

-- what a status that was said isn't
pub not-by : (test : Status → Bool) → test status.WriteFault ≡ false →
    test status.OutOfMemory ≡ false → (p s : Status) (w : Result (Unit {0}) TraceFault) →
    test p ≡ false → s ≡ status_by p w → test s ≡ false
not-by test f o p s (Ok u) n e = ap test e ∙ n
not-by test f o p s (Err fault.WriteFault) n e = ap test e ∙ f
not-by test f o p s (Err fault.OutOfMemory) n e = ap test e ∙ o

pub said-not : (test : Status → Bool) → test status.WriteFault ≡ false →
    test status.OutOfMemory ≡ false → (old new : Output)
    (line : Result (Vec ℕ Global) AllocError) (p s : Status) → test p ≡ false →
    SaysLine old new line p s → test s ≡ false
said-not test f o old new (Ok v) p s n e = not-by test f o p s e.written n e.status
said-not test f o old new (Err x) p s n e = ap test e.status ∙ o

-- what is read is the one trace
pub verifies-read : (reading : Result TraceState TextRefused) (trace : TraceState) (s : Status) →
    reading ≡ Ok trace → JudgesBy (λ t. t ≡ trace) s → JudgesBy (λ t. reading ≡ Ok t) s
verifies-read reading trace s r verifies =
    λ t h. verifies t (let e : Ok t ≡ Ok trace = sym h ∙ r in cc)

-- the verdict by the first record that differs
legal-by : (n entries : ℕ) (o : Option Difference) → verdict.Legal entries ≡ verdict_by n o →
    (o ≡ None) × (entries ≡ n)
legal-by n entries None e = (refl, let same : entries ≡ n = cc in same)
legal-by n entries (Some d) e = absurd (cc)

pub legal-of : (t : TraceState) (entries : ℕ) → verdict.Legal entries ≡ verdict_of t →
    (difference_in t ≡ None) × (entries ≡ length (entries_of t))
unfolding verdict_of
legal-of t entries e = legal-by (length (entries_of t)) entries (difference_in t) e

pub illegal-by : (n place : ℕ) (x y : List (List ℕ)) (o : Option Difference) →
    verdict.IllegalAt place x y ≡ verdict_by n o →
    o ≡ Some (record { place = place; expected = x; found = y })
illegal-by n place x y None e = absurd (cc)
illegal-by n place x y (Some d) e =
    let p : d.place ≡ place = cc in
    let a : d.expected ≡ x = cc in
    let b : d.found ≡ y = cc in
    λ i. Some (record { place = p i; expected = a i; found = b i })

pub illegal-of : (t : TraceState) (place : ℕ) (x y : List (List ℕ)) →
    verdict.IllegalAt place x y ≡ verdict_of t →
    difference_in t ≡ Some (record { place = place; expected = x; found = y })
unfolding verdict_of
illegal-of t place x y e = illegal-by (length (entries_of t)) place x y (difference_in t) e

-- a legal trace is not reported to be illegal
pub verifies-fair : (t : TraceState) (s : Status) → IsLegalTrace t → IsReadAgain t →
    tells_illegal s ≡ false → JudgesBy (λ x. x ≡ t) s
verifies-fair t s fair again n = λ x same. record {
  legal = λ h. subst IsLegalTrace (sym same) fair;
  again = λ h. subst IsReadAgain (sym same) again;
  illegal = λ h. absurd (let bad : true ≡ false = sym h ∙ n in cc);
}

-- a trace that was found legal
pub verifies-legal : (t : TraceState) (v : Verdict) (entries : ℕ) (s : Status) →
    v ≡ verdict.Legal entries → v ≡ verdict_of t →
    ((v ≡ verdict.Legal (length (entries_of t))) ↔ IsLegalTrace t) → IsReadAgain t →
    tells_illegal s ≡ false → JudgesBy (λ x. x ≡ t) s
verifies-legal t v entries s is e legal again n =
    let count = (legal-of t entries (sym is ∙ e)).1 in
    let fair : IsLegalTrace t = legal.0 (is ∙ ap verdict.Legal count) in
    verifies-fair t s fair again n

-- a trace that is not legal is not reported to be
pub verifies-unfair : (t : TraceState) (s : Status) → ¬ IsLegalTrace t → tells_legal s ≡ false →
    JudgesBy (λ x. x ≡ t) s
verifies-unfair t s unfair n = λ u same. record {
  legal = λ h. absurd (let bad : true ≡ false = sym h ∙ n in cc);
  again = λ h. absurd (let bad : true ≡ false = sym h ∙ n in cc);
  illegal = λ h l. unfair (subst IsLegalTrace same l);
}

-- a trace that was found not to be legal
pub verifies-illegal : (t : TraceState) (v : Verdict) (place : ℕ) (x y : List (List ℕ))
    (s : Status) →
    v ≡ verdict.IllegalAt place x y →
    ((v ≡ verdict.Legal (length (entries_of t))) ↔ IsLegalTrace t) → tells_legal s ≡ false →
    JudgesBy (λ u. u ≡ t) s
verifies-illegal t v place x y s is legal n =
    verifies-unfair t s (λ l. let bad = sym is ∙ legal.1 l in absurd (cc bad)) n

-- why a text is refused
pub refused-why : (reading : Result TraceState TextRefused) (f : TextFault) (r : TextRefused) →
    f ≡ Refused r → ReadsHeld reading (Err f) → reading ≡ Err r
refused-why reading f r e why =
    let P : TextFault → Type 0 = λ x. ReadsHeld reading (Err x) in subst P e why

-- a text that is refused is no trace
pub verifies-none : (reading : Result TraceState TextRefused) (r : TextRefused) (s : Status) →
    reading ≡ Err r → JudgesBy (λ t. reading ≡ Ok t) s
verifies-none reading r s e = λ t h. let bad : Ok t ≡ Err r = sym h ∙ e in absurd (cc)

-- where the status gives nothing of a trace nothing is said
pub verifies-other : (IsRead : TraceState → Type 0) (s : Status) → tells_legal s ≡ false →
    tells_illegal s ≡ false → JudgesBy IsRead s
verifies-other IsRead s l i = λ t h. record {
  legal = λ e. absurd (let bad : true ≡ false = sym e ∙ l in cc);
  again = λ e. absurd (let bad : true ≡ false = sym e ∙ l in cc);
  illegal = λ e. absurd (let bad : true ≡ false = sym e ∙ i in cc);
}

-- so a trace was checked
pub check-ended : (name text : List ℕ) (old new : Output) (s : Status) →
    EndsBy old new (check_plan name text) s → JudgesBy (λ t. trace_of text ≡ Ok t) s →
    EndsByCheck name text old new s
check-ended name text old new s e verified =
    record { by = check-for name text old new s e verified; verified = verified }

-- and so it was migrated
pub migrate-ended : (name text : List ℕ) (old new : Output) (s : Status) →
    EndsBy old new (migrate_plan name text) s → JudgesBy (λ t. trace_of text ≡ Ok t) s →
    EndsByMigrate name text old new s
migrate-ended name text old new s e verified = record {
  by = migrate-for name text old new s e verified;
  verified = verified;
  migrated = migrated-of name text old new s e verified;
}
