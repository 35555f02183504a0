-- What the end of a job over files says of its status.
-- for: crates above
use Rattle.std.specs.Prelude.{◌≡◌, ◌⊎◌, ◌<◌, refl, ℕ, Bool, true, false, not, Option, Some, IsSomeAnd, Result, Err}
use Rattle.std.specs.Result.{IsOk, is_ok}
use Rattle.std.proofs.Common.{◌∙◌, inl, inr, sym, ap, subst, arith}
use Rattle.std.proofs.lemmas.Bool.{cases_Bool}
use Rattle.outside.specs.Faults.{Rose}
use Rattle.outside.specs.Told.{FileMap}
use Rattle.trace_text.specs.writing.Writes.{Output}
use Rattle.job_ends.proofs.PlanLaws.{Statuses, comes, only, statuses, write}
use Rattle.job_ends.proofs.Statuses.{apart, early-not, fault-stays, text-unfaulted}
use Rattle.job_ends.specs.Causes.{ComesExactly, is_fault, is_told}
use Rattle.job_ends.specs.Ends.{EndsEarly}
use Rattle.job_ends.proofs.Endings.{EndsGiven, EndsOver, EndsReported, IsReportOf}
use Rattle.job_ends.specs.Courses.{CauseBy, IsAbout, IsEndOf, Job, Says, decides, word_of}
use Rattle.job_ends.specs.declared.status.Status.{Status}
use Rattle.job_ends.specs.declared.status.Status.TheVariants as status

-- ---- statuses by their kinds

-- a status that files decide is no fault
pub decided-unfaulted : (whole : Bool) (s : Status) → decides whole s ≡ true → is_fault s ≡ false
decided-unfaulted true s d = not-true (is_fault s) d
  where
    not-true : (b : Bool) → not b ≡ true → b ≡ false
    not-true true h = absurd (let bad : false ≡ true = h in cc)
    not-true false h = refl
decided-unfaulted false s d = text-unfaulted s d

-- one that is about no file is about no word
wordless : (files : ℕ) (s : Status) → word_of s ≡ 0 → IsAbout files s → ⊥
wordless files s none about = let some : 0 < word_of s = about.some in omega (arith, none, some)

-- one that is reported of what was given is no fault
pub told-unfaulted : (s : Status) → is_told s ≡ true → is_fault s ≡ false
told-unfaulted (status.ReadFault word) t = absurd (cc)
told-unfaulted status.WriteFault t = absurd (cc)
told-unfaulted status.OutOfMemory t = absurd (cc)
told-unfaulted s t = refl

-- ---- a fault in place of every other status

faulted : (s wanted : Status) (Cause : Type 0) → is_fault wanted ≡ false → is_fault s ≡ true →
    ComesExactly s wanted Cause
faulted s wanted Cause f t = record {
  only = λ e. absurd (apart is_fault s wanted t f e);
  always = λ h. inr t;
}

-- ---- a file couldn't be read

unread : (told : Option FileMap) (rose : Type 0) (j : Job) (old new : Output) (s : Status)
    (word : ℕ) → EndsOver told rose j old new s → s ≡ status.ReadFault word → rose ⊎
    IsSomeAnd told (λ files. j.reading files ≡ Err (status.ReadFault word))
unread told rose j old new s word (inl (inl e)) h =
    absurd (early-not s (status.ReadFault word) e.status h (λ x. absurd (cc)))
unread told rose j old new s word (inl (inr r)) h =
    subst (IsReportOf told rose j.reading)
    (only old new r.plan s (status.ReadFault word) r.ends h (λ x. absurd (cc)) (λ x. absurd (cc)))
    r.report
unread told rose j old new s word (inr (a, is, g)) h =
    absurd (apart is_fault (status.ReadFault word) g.plan.status refl g.unfaulted (sym
    (only old new g.plan s (status.ReadFault word) g.ends h (λ x. absurd (cc)) (λ x. absurd (cc)))))

-- ---- writing failed

unwritten : (told : Option FileMap) (rose : Type 0) (j : Job) (old new : Output) (s : Status) →
    EndsOver told rose j old new s → s ≡ status.WriteFault → Rose old.count new.count
unwritten told rose j old new s (inl (inl e)) h =
    absurd (early-not s status.WriteFault e.status h (λ x. absurd (cc)))
unwritten told rose j old new s (inl (inr r)) h =
    write old new r.plan s r.ends
    (λ e. wordless j.files r.plan.status (ap word_of e) r.about) h
unwritten told rose j old new s (inr (a, is, g)) h =
    write old new g.plan s g.ends
    (λ e. apart is_fault status.WriteFault g.plan.status refl g.unfaulted (sym e)) h

-- ---- each status that the files decide comes exactly of its cause

reported-comes : {A : Type 0} (files : FileMap) (rose : Type 0)
    (reading : FileMap → Result A Status)
    (Cause : A → Status → Type 0) (s p wanted : Status) (R : Type 0) → Statuses s p R →
    is_fault wanted ≡ false → ComesExactly s wanted (p ≡ wanted) →
    IsReportOf (Some files) rose reading p →
    ComesExactly s wanted (CauseBy (reading files) Cause wanted)
reported-comes files rose reading Cause s (status.ReadFault word) wanted R by f c is =
    faulted s wanted _ f (fault-stays s (status.ReadFault word) R by refl)
reported-comes files rose reading Cause s p wanted R by f c is =
    subst (λ x. ComesExactly s wanted (CauseBy x Cause wanted)) (sym is) c

given-comes : (j : Job) (a : j.Given) (old new : Output) (s wanted : Status) →
    decides j.whole wanted ≡ true → EndsGiven j a old new s →
    ComesExactly s wanted (j.Cause a wanted)
given-comes j a old new s wanted d g = elim (cases_Bool (is_fault s)) [
  | inl t ↦ faulted s wanted (j.Cause a wanted) (decided-unfaulted j.whole wanted d) t
  | inr n ↦ let c = comes old new g.plan s wanted g.ends (decided-unfaulted j.whole wanted d) in
      record {
        only = λ h. let same : g.plan.status ≡ wanted = c.only h in
            subst (j.Cause a) same (g.caused n (ap (decides j.whole) same ∙ d));
        always = λ h. c.always (g.alone n wanted d h);
      }
]

caused : (files : FileMap) (rose : Type 0) (j : Job) (old new : Output) (s wanted : Status) →
    decides j.whole wanted ≡ true → EndsOver (Some files) rose j old new s →
    ComesExactly s wanted (CauseBy (j.reading files) j.Cause wanted)
caused files rose j old new s wanted d (inl (inl e)) =
    faulted s wanted _ (decided-unfaulted j.whole wanted d) (ap is_fault e.status)
caused files rose j old new s wanted d (inl (inr r)) =
    let f = decided-unfaulted j.whole wanted d in
    reported-comes files rose j.reading j.Cause s r.plan.status wanted (Rose old.count new.count)
    (statuses old new r.plan s r.ends) f (comes old new r.plan s wanted r.ends f) r.report
caused files rose j old new s wanted d (inr (a, is, g)) =
    subst (λ x. ComesExactly s wanted (CauseBy x j.Cause wanted)) (sym is)
    (given-comes j a old new s wanted d g)

-- ---- where nothing failed

-- no fault comes but out of memory
unfailed : (s : Status) (rose writing : Type 0) (Lack : ℕ → Type 0) →
    ((word : ℕ) → s ≡ status.ReadFault word → rose ⊎ Lack word) →
    (s ≡ status.WriteFault → writing) → ((word : ℕ) → Lack word → ⊥) → (rose → ⊥) →
    (writing → ⊥) → (is_fault s ≡ false) ⊎ (s ≡ status.OutOfMemory)
unfailed (status.ReadFault word) rose writing Lack read write none r w =
    absurd (by (read word refl))
  where
    by : rose ⊎ Lack word → ⊥
    by (inl h) = r h
    by (inr h) = none word h
unfailed status.WriteFault rose writing Lack read write none r w = absurd (w (write refl))
unfailed status.OutOfMemory rose writing Lack read write none r w = inr refl
unfailed s rose writing Lack read write none r w = inl refl

-- a report of files that give something comes of a read that failed
reported-given : {A : Type 0} (files : FileMap) (rose : Type 0)
    (reading : FileMap → Result A Status)
    (p : Status) → IsReportOf (Some files) rose reading p → IsOk (reading files) → (rose → ⊥) → ⊥
reported-given files rose reading (status.ReadFault word) (inl h) there r = r h
reported-given files rose reading (status.ReadFault word) (inr is) there r =
    let bad : true ≡ false = sym there ∙ ap is_ok is in cc
reported-given files rose reading p is there r =
    let bad : true ≡ false = sym there ∙ ap is_ok is in cc

own-stays : (Own : Status → Type 0) (s p : Status) (R : Type 0) → Statuses s p R → (R → ⊥) → Own p →
    Own s ⊎ (s ≡ status.OutOfMemory)
own-stays Own s p R (inl e) w own = inl (subst Own (sym e) own)
own-stays Own s p R (inr (inl e)) w own = absurd (w e.1)
own-stays Own s p R (inr (inr e)) w own = inr e

own-given : (files : FileMap) (rose : Type 0) (j : Job) (old new : Output) (s : Status) →
    EndsOver (Some files) rose j old new s → IsOk (j.reading files) → (rose → ⊥) →
    (Rose old.count new.count → ⊥) → j.Own s ⊎ (s ≡ status.OutOfMemory)
own-given files rose j old new s (inl (inl e)) there r w = inr e.status
own-given files rose j old new s (inl (inr h)) there r w =
    absurd (reported-given files rose j.reading h.plan.status h.report there r)
own-given files rose j old new s (inr (a, is, g)) there r w =
    own-stays j.Own s g.plan.status (Rose old.count new.count) (statuses old new g.plan s g.ends) w
    g.own

-- ---- the kind of the status

kind-by : (j : Job) (s p : Status) (R : Type 0) → Statuses s p R → IsEndOf j p → IsEndOf j s
kind-by j s p R (inl e) is = subst (IsEndOf j) (sym e) is
kind-by j s p R (inr (inl e)) is = inl e.0
kind-by j s p R (inr (inr e)) is = inr (inl e)

kind-of : (told : Option FileMap) (rose : Type 0) (j : Job) (old new : Output) (s : Status) →
    EndsOver told rose j old new s → IsEndOf j s
kind-of told rose j old new s (inl (inl e)) = inr (inl e.status)
kind-of told rose j old new s (inl (inr r)) =
    kind-by j s r.plan.status (Rose old.count new.count) (statuses old new r.plan s r.ends)
    (inr (inr (inl r.about)))
kind-of told rose j old new s (inr (a, is, g)) =
    kind-by j s g.plan.status (Rose old.count new.count) (statuses old new g.plan s g.ends)
    (inr (inr (inr g.own)))

-- ---- all of it

pub says : (told : Option FileMap) (rose : Type 0) (j : Job) (old new : Output) (s : Status) →
    EndsOver told rose j old new s → Says told rose j old new s
says told rose j old new s by =
    let read = λ (word : ℕ). unread told rose j old new s word by in
    let write = unwritten told rose j old new s by in
    let known : (files : FileMap) → told ≡ Some files → EndsOver (Some files) rose j old new s =
    λ files e. subst (λ x. EndsOver x rose j old new s) e by in
    record {
      comes = λ files wanted e d. caused files rose j old new s wanted d (known files e);
      read_fault = read;
      write_fault = write;
      faultless = λ files e. unfailed s rose (Rose old.count new.count)
          (λ word. j.reading files ≡ Err (status.ReadFault word))
          (λ word. unread (Some files) rose j old new s word (known files e)) write;
      given = λ files e. own-given files rose j old new s (known files e);
      kind = kind-of told rose j old new s by;
    }

-- where memory ran out before anything was written
pub says-early : (told : Option FileMap) (rose : Type 0) (j : Job) (old new : Output) (s : Status) →
    EndsEarly old new s → Says told rose j old new s
says-early told rose j old new s e = says told rose j old new s (inl (inl e))

-- ---- a status that is about no file

-- where the files gave nothing it is a fault, or about a file
pub none-given : {A : Type 0} (told : Option FileMap) (rose : Type 0) (files : ℕ)
    (reading : FileMap → Result A Status) (old new : Output) (s : Status) →
    EndsEarly old new s ⊎ EndsReported told rose files reading old new s → is_fault s ≡ false →
    word_of s ≡ 0 → ⊥
none-given told rose files reading old new s (inl e) f n =
    apart is_fault s s (ap is_fault e.status) f refl
none-given told rose files reading old new s (inr r) f n =
    let same = (comes old new r.plan s s r.ends f).only refl in
    wordless files r.plan.status (ap word_of same ∙ n) r.about
