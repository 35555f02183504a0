-- Lists of threads, seen as lists of the jobs that they do.
-- for: start, join
use Rattle.std.proofs.Common.{arith, ◌≡◌, ◌≢◌, ◌<◌, ℕ, zero, suc, List, [], ◌∷◌, ◌++◌, length, map, Option, Some, None, IfSome, IsSome, set, refl, sym, ap, ◌∙◌, subst}
use Rattle.std.specs.Prelude.{slice_get, option_map}
use Rattle.std.specs.Option.{option_flatten}
use Rattle.std.specs.declared.thread.PromisedHandle.{PromisedHandle}
use Rattle.outside.specs.declared.worker.Due.{Due}

-- the job that a thread does
abbrev pub done_by : {H J E : Type 0} → PromisedHandle E (Due H J E) → J
done_by t = t.promise.job.value

module _ {A B : Type 0} (f : A → B) where
  abbrev pub job_at : List (Option A) → ℕ → Option B
  job_at threads n = option_flatten (slice_get (map (option_map f) threads) n)

  -- where a job stands at a place, its thread does
  pub thread_there : (threads : List (Option A)) (n : ℕ) → IsSome (job_at threads n) → (t : A) × (slice_get threads n ≡ Some (Some t))
  thread_there [] n there = absurd (cc)
  thread_there (None ∷ threads) zero there = absurd (cc)
  thread_there (Some t ∷ threads) zero there = (t, refl)
  thread_there (t ∷ threads) (suc n) there = thread_there threads n there

  -- where a thread stands at a place, its job does
  pub job_there : (threads : List (Option A)) (n : ℕ) (t : A) → slice_get threads n ≡ Some (Some t) → job_at threads n ≡ Some (f t)
  job_there [] n t e = absurd (cc)
  job_there (None ∷ threads) zero t e = absurd (cc)
  job_there (Some u ∷ threads) zero t e = let same : u ≡ t = cc in ap (λ x. Some (f x)) same
  job_there (u ∷ threads) (suc n) t e = job_there threads n t e

  -- a thread that is taken out takes its job out
  pub jobs_set : (threads : List (Option A)) (n : ℕ) → map (option_map f) (set threads n None) ≡ set (map (option_map f) threads) n None
  jobs_set [] n = refl
  jobs_set (t ∷ threads) zero = refl
  jobs_set (t ∷ threads) (suc n) = ap (λ jobs. option_map f t ∷ jobs) (jobs_set threads n)

  -- a thread that is put after the others leaves their jobs at their places
  jobs_put : (threads : List (Option A)) (t : Option A) (n : ℕ) → n < length (map (option_map f) threads) → job_at (threads ++ t ∷ []) n ≡ job_at threads n
  jobs_put [] t n below = absurd (omega arith)
  jobs_put (u ∷ threads) t zero below = refl
  jobs_put (u ∷ threads) t (suc n) below = jobs_put threads t n (omega arith)

  pub jobs_behind : (now before threads : List (Option A)) (t : Option A) → now ≡ before ++ t ∷ [] → before ≡ threads → (n : ℕ) → n < length (map (option_map f) threads)
      → job_at now n ≡ job_at threads n
  jobs_behind now before threads t put same n below =
      ap (λ ts. job_at ts n) (put ∙ ap (λ ts. ts ++ t ∷ []) same) ∙ jobs_put threads t n below

  -- a thread that is taken out leaves the others' jobs at their places
  pub jobs_kept : (threads : List (Option A)) (place n : ℕ) → n ≢ place → job_at (set threads place None) n ≡ job_at threads n
  jobs_kept [] place n other = refl
  jobs_kept (t ∷ threads) zero zero other = absurd (other refl)
  jobs_kept (t ∷ threads) zero (suc n) other = refl
  jobs_kept (t ∷ threads) (suc place) zero other = refl
  jobs_kept (t ∷ threads) (suc place) (suc n) other = jobs_kept threads place n (λ e. other (ap suc e))

-- what holds of the value holds if there is one
pub if_some : {B : Type 0} (o : Option B) (b : B) (P : B → Type 0) → o ≡ Some b → P b → IfSome o P
if_some None b P e p = absurd (cc)
if_some (Some x) b P e p = let same : x ≡ b = cc in subst P (sym same) p
