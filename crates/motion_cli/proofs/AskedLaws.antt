-- How the program ends by what was asked, as the code has it.
-- for: top_of_args, top
use Rattle.std.specs.Prelude.{◌≡◌, ◌⊎◌, ℕ, Option, Some, None, Result, Ok, Err, List, IfOk, OnErr}
use Rattle.std.specs.Option.{option_map}
use Rattle.std.proofs.Common.{ap, inl, inr, subst, sym}
use Rattle.command_words.specs.Requests as spec
use Rattle.command_words.specs.declared.request.Request as code
use Rattle.job_ends.specs.declared.status.Status.{Status}
use Rattle.outside.specs.Told.{FileMap}
use Rattle.trace_text.specs.writing.Writes.{Output}
use Rattle.motion_cli.specs.Ends.{EndsByRequest}

pub asked-as : (told : Option FileMap) (rose refused : Type 0) (Started : ℕ → Type 0)
    (r q : code.Request) (old new : Output) (s : Status) → r ≡ q →
    EndsByRequest told rose refused Started (Some (spec.request_told q)) old new s →
    EndsByRequest told rose refused Started (Some (spec.request_told r)) old new s
asked-as told rose refused Started r q old new s is e =
    subst (λ a. EndsByRequest told rose refused Started (Some (spec.request_told a)) old new s) (sym is) e

-- what is asked, of the request with its hands
pub request-told : (x : Option code.Request) (a : Option spec.Asked) → option_map spec.told x ≡ a →
    option_map spec.request_told x ≡ option_map (λ (b : spec.Asked). b.request) a
request-told None a is = ap (option_map (λ (b : spec.Asked). b.request)) is
request-told (Some r) a is = ap (option_map (λ (b : spec.Asked). b.request)) is

-- what is said of words that were read, if there was memory for them
pub said-by : {E : Type 0} (r : Result (List (List ℕ)) E) (words : List (List ℕ))
    (Said : List (List ℕ) → Type 0) (early : Type 0) → IfOk r (λ all. all ≡ words) →
    IfOk r Said → OnErr r early → Said words ⊎ early
said-by (Ok all) words Said early same said e = inl (subst Said same said)
said-by (Err error) words Said early same said e = inr e
