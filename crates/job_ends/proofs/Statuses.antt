-- How the status of a job stands to that of its plan.
-- for: crates above
use Rattle.std.specs.Prelude.{◌≡◌, ◌≢◌, refl, true, false, Bool}
use Rattle.std.proofs.Common.{◌∙◌, inl, inr, sym, ap, subst}
use Rattle.trace_text.specs.writing.Writes.{Output}
use Rattle.job_ends.proofs.PlanLaws.{Statuses, traces}
use Rattle.job_ends.specs.Causes.{is_fault, is_traced}
use Rattle.job_ends.specs.Courses.{word_of}
use Rattle.job_ends.specs.Ends.{EndsBy}
use Rattle.job_ends.specs.Plans.{Plan}
use Rattle.job_ends.specs.Readings.{is_of_text}
use Rattle.job_ends.specs.declared.status.Status.{Status}
use Rattle.job_ends.specs.declared.status.Status.TheVariants as status

-- a status is not another where a test distinguishes them
pub apart : (test : Status → Bool) (s t : Status) → test s ≡ true → test t ≡ false → s ≡ t → ⊥
apart test s t has hasnt e = let bad : true ≡ false = sym has ∙ ap test e ∙ hasnt in cc

-- out of memory is no other status
pub early-not : (s wanted : Status) → s ≡ status.OutOfMemory → s ≡ wanted →
    wanted ≢ status.OutOfMemory → ⊥
early-not s wanted e h other = other (sym h ∙ e)

-- one of a text is no fault
pub text-unfaulted : (s : Status) → is_of_text s ≡ true → is_fault s ≡ false
text-unfaulted (status.TooLong word) t = refl
text-unfaulted (status.TextRefused word place rule) t = refl
text-unfaulted s t = absurd (cc)

-- one that stands for a trace is about no text, and no word
pub traced-no-text : (s : Status) → is_traced s ≡ true → is_of_text s ≡ false
traced-no-text status.Ok t = refl
traced-no-text status.CyclesOver t = refl
traced-no-text status.HistoryFull t = refl
traced-no-text s t = absurd (cc)

pub traced-wordless : (s : Status) → is_traced s ≡ true → word_of s ≡ 0
traced-wordless status.Ok t = refl
traced-wordless status.CyclesOver t = refl
traced-wordless status.HistoryFull t = refl
traced-wordless s t = absurd (cc)

-- a fault stays one
pub fault-stays : (s p : Status) (R : Type 0) → Statuses s p R → is_fault p ≡ true →
    is_fault s ≡ true
fault-stays s p R (inl e) f = ap is_fault e ∙ f
fault-stays s p R (inr (inl e)) f = ap is_fault e.0
fault-stays s p R (inr (inr e)) f = ap is_fault e

-- the same plan
pub same-plan : (old new : Output) (p q : Plan) (s : Status) → p ≡ q → EndsBy old new p s →
    EndsBy old new q s
same-plan old new p q s e w = let P : Plan → Type 0 = λ x. EndsBy old new x s in subst P e w

-- a plan that stands for no trace
pub untraced : (old new : Output) (p : Plan) (s : Status) → EndsBy old new p s →
    is_traced p.status ≡ false → is_traced s ≡ true → ⊥
untraced old new p s e n t =
    let same = (traces old new p s e t).0 in apart is_traced s p.status t n same
