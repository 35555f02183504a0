-- Readings that are refused, and what they lead to.
-- for: crates above
use Rattle.std.specs.Prelude.{◌≡◌, ℕ, Some, Result, Ok, Err, List}
use Rattle.std.proofs.Common.{◌∙◌, ap, refl, sym}
use Rattle.motion_history.specs.declared.refused.Rule.{Rule}
use Rattle.motion_history.specs.declared.refused.TextRefused.{TextRefused}
use Rattle.job_ends.specs.Causes.{IsRefusedAt, refusal_by}
use Rattle.job_ends.specs.Plans.{Plan, plan_of_reading}
use Rattle.job_ends.specs.declared.status.Status.TheVariants as status

refused : {A : Type 0} (plan : A → Plan) (name : List ℕ) (place : ℕ) (rule : Rule)
    (reading : Result A TextRefused) →
    refusal_by reading ≡ Some (record { place = place; rule = rule }) →
    (plan_of_reading plan 1 name reading).status ≡ status.TextRefused 1 place rule
refused plan name place rule (Ok x) e = absurd (cc)
refused plan name place rule (Err r) e =
    let same : r ≡ record { place = place; rule = rule } = cc in
    ap (λ (y : TextRefused). status.TextRefused 1 y.place y.rule) same

-- a refusal is what the text leads to
pub refused-plan : {A : Type 0} (plan : A → Plan) (name : List ℕ) (reading : Result A TextRefused)
    (word place : ℕ) (rule : Rule) → IsRefusedAt reading word place rule →
    (plan_of_reading plan 1 name reading).status ≡ status.TextRefused word place rule
refused-plan plan name reading word place rule h =
    refused plan name place rule reading h.refusal
    ∙ ap (λ n. status.TextRefused n place rule) (sym h.first)

-- where it leads to a refusal, that is the reading's
pub refused-cause : {A : Type 0} (reading : Result A TextRefused) (r : TextRefused) →
    reading ≡ Err r → IsRefusedAt reading 1 r.place r.rule
refused-cause reading r e = record { first = refl; refusal = ap refusal_by e }
