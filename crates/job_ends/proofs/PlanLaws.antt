-- What plans say of ends.
-- for: say_refused, say_unread
use Rattle.std.specs.Prelude.{◌≡◌, ◌≢◌, ◌⊎◌, refl, ℕ, true, false, Result, Ok, Err, List, IfOk}
use Rattle.std.specs.Io.KnownBytes.{Appends}
use Rattle.std.specs.declared.alloc.AllocError.{AllocError}
use Rattle.std.proofs.Common.{Vec, Global, ◌∙◌, inl, inr, sym, ap, subst}
use Rattle.outside.specs.Faults.{Rose}
use Rattle.outside.specs.declared.files.FilesFault.{FilesFault}
use Rattle.outside.specs.declared.files.FilesFault.TheVariants as files
use Rattle.trace_text.proofs.written.Writing.{WritesPrefix-none}
use Rattle.trace_text.specs.writing.Writes.{Output, Writes}
use Rattle.trace_text.specs.declared.writing.write.TraceFault.{TraceFault}
use Rattle.trace_text.specs.declared.writing.write.TraceFault.TheVariants as fault
use Rattle.job_ends.specs.Causes.{ComesExactly, is_fault, is_traced}
use Rattle.job_ends.specs.Ends.{EndsBy, EndsEarly, EndsUnread, SaysLine, status_by}
use Rattle.job_ends.specs.Plans.{Plan, too_long_plan, unread_plan}
use Rattle.job_ends.specs.declared.status.Status.{Status}
use Rattle.job_ends.specs.declared.status.Status.TheVariants as status

-- memory that runs out before anything is written is a cause to end by any plan
pub early : (old new : Output) (plan : Plan) (s : Status) → EndsEarly old new s →
    EndsBy old new plan s
early old new plan s e = rw e.output (record {
  written = Err fault.OutOfMemory;
  writes = (refl, WritesPrefix-none old.told plan.text);
  status = e.status;
})

-- a line that is the text of a plan
pub said : (old new : Output) (text : List ℕ) (line : Result (Vec ℕ Global) AllocError)
    (s r : Status) → IfOk line (λ v. v.items ≡ text) → SaysLine old new line s r →
    EndsBy old new (record { status = s; text = text }) r
said old new text (Ok v) s r e w =
    let P : List ℕ → Type 0 = λ t. EndsBy old new (record { status = s; text = t }) r in subst P e w
said old new text (Err x) s r e w = early old new (record { status = s; text = text }) r w

-- a status is that of a plan, or writing failed for this reason, or memory ran out
abbrev pub Statuses : Status → Status → Type 0 → Type 0
Statuses s p R = (s ≡ p) ⊎ (((s ≡ status.WriteFault) × R) ⊎ (s ≡ status.OutOfMemory))

-- the status by what was written
statuses-by : (old new : Output) (text : List ℕ) (p s : Status) (w : Result (Unit {0}) TraceFault) →
    Writes old new text w → s ≡ status_by p w → Statuses s p (Rose old.count new.count)
statuses-by old new text p s (Ok u) ws e = inl e
statuses-by old new text p s (Err fault.WriteFault) ws e = inr (inl (e, ws.0))
statuses-by old new text p s (Err fault.OutOfMemory) ws e = inr (inr e)

pub statuses : (old new : Output) (plan : Plan) (s : Status) → EndsBy old new plan s →
    Statuses s plan.status (Rose old.count new.count)
statuses old new plan s e = statuses-by old new plan.text plan.status s e.written e.writes e.status

whole-by : (old new : Output) (text : List ℕ) (p s : Status) (w : Result (Unit {0}) TraceFault) →
    Writes old new text w → s ≡ status_by p w → is_fault s ≡ false →
    (s ≡ p) × Appends old.told new.told text
whole-by old new text p s (Ok u) ws e f = (e, ws.0)
whole-by old new text p s (Err fault.WriteFault) ws e f =
    let bad : true ≡ false = sym (ap is_fault e) ∙ f in absurd (cc)
whole-by old new text p s (Err fault.OutOfMemory) ws e f =
    let bad : true ≡ false = sym (ap is_fault e) ∙ f in absurd (cc)

-- where no fault came, the text was written
pub whole : (old new : Output) (plan : Plan) (s : Status) → EndsBy old new plan s →
    is_fault s ≡ false → (s ≡ plan.status) × Appends old.told new.told plan.text
whole old new plan s e = whole-by old new plan.text plan.status s e.written e.writes e.status

pub traced-unfaulted : (s : Status) → is_traced s ≡ true → is_fault s ≡ false
traced-unfaulted status.Ok t = refl
traced-unfaulted status.CyclesOver t = refl
traced-unfaulted status.HistoryFull t = refl
traced-unfaulted s t = absurd (cc)

-- so it is where the status stands for a trace
pub traces : (old new : Output) (plan : Plan) (s : Status) → EndsBy old new plan s →
    is_traced s ≡ true → (s ≡ plan.status) × Appends old.told new.told plan.text
traces old new plan s e t = whole old new plan s e (traced-unfaulted s t)

-- a status that is no fault comes exactly where it is the plan's
comes-by : (s p wanted : Status) (R : Type 0) →
    Statuses s p R → is_fault wanted ≡ false → ComesExactly s wanted (p ≡ wanted)
comes-by s p wanted R (inl e) f = record { only = λ h. sym e ∙ h; always = λ h. inl (e ∙ h) }
comes-by s p wanted R (inr (inl e)) f = record {
  only = λ h. absurd (let bad : true ≡ false = sym (ap is_fault e.0) ∙ ap is_fault h ∙ f in cc);
  always = λ h. inr (ap is_fault e.0);
}
comes-by s p wanted R (inr (inr e)) f = record {
  only = λ h. absurd (let bad : true ≡ false = sym (ap is_fault e) ∙ ap is_fault h ∙ f in cc);
  always = λ h. inr (ap is_fault e);
}

pub comes : (old new : Output) (plan : Plan) (s wanted : Status) → EndsBy old new plan s →
    is_fault wanted ≡ false → ComesExactly s wanted (plan.status ≡ wanted)
comes old new plan s wanted e =
    comes-by s plan.status wanted (Rose old.count new.count) (statuses old new plan s e)

-- a status that neither writing nor out of memory brings is the plan's
only-by : (s p wanted : Status) (R : Type 0) →
    Statuses s p R → s ≡ wanted →
    wanted ≢ status.WriteFault → wanted ≢ status.OutOfMemory → p ≡ wanted
only-by s p wanted R (inl e) h w m = sym e ∙ h
only-by s p wanted R (inr (inl e)) h w m = absurd (w (sym h ∙ e.0))
only-by s p wanted R (inr (inr e)) h w m = absurd (m (sym h ∙ e))

pub only : (old new : Output) (plan : Plan) (s wanted : Status) → EndsBy old new plan s →
    s ≡ wanted → wanted ≢ status.WriteFault → wanted ≢ status.OutOfMemory → plan.status ≡ wanted
only old new plan s wanted e =
    only-by s plan.status wanted (Rose old.count new.count) (statuses old new plan s e)

-- WriteFault comes where the count of faults rose
write-by : (s p : Status) (R : Type 0) → Statuses s p R → p ≢ status.WriteFault →
    s ≡ status.WriteFault → R
write-by s p R (inl e) other h = absurd (other (sym e ∙ h))
write-by s p R (inr (inl e)) other h = e.1
write-by s p R (inr (inr e)) other h =
    absurd (let bad : status.OutOfMemory ≡ status.WriteFault = sym e ∙ h in cc)

pub write : (old new : Output) (plan : Plan) (s : Status) → EndsBy old new plan s →
    plan.status ≢ status.WriteFault → s ≡ status.WriteFault → Rose old.count new.count
write old new plan s e =
    write-by s plan.status (Rose old.count new.count) (statuses old new plan s e)

-- why a file wasn't read was said
pub unread-said : (word : ℕ) (name : List ℕ) (f : FilesFault) (old new : Output) (s : Status) →
    f ≡ files.Failed → EndsBy old new (unread_plan word name) s →
    EndsUnread word name f old new s
unread-said word name f old new s e by =
    let P : FilesFault → Type 0 = λ x. EndsUnread word name x old new s in subst P (sym e) by

pub too-long-said : (word : ℕ) (name : List ℕ) (f : FilesFault) (old new : Output) (s : Status) →
    f ≡ files.TooLong → EndsBy old new (too_long_plan word name) s →
    EndsUnread word name f old new s
too-long-said word name f old new s e by =
    let P : FilesFault → Type 0 = λ x. EndsUnread word name x old new s in subst P (sym e) by
