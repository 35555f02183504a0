-- One instance more is looked at.
use Rattle.std.proofs.Common.{◌≡◌, true, arith, subst, inl, inr}
use Rattle.std.proofs.lemmas.Bool.{cases_lt}
use Rattle.kernel_invariants.specs.Showing.{ShowsWhere}
use Rattle.kernel_invariants.proofs.owners.showing.all_show.Goals as goal

pub loop-instance-preserved : goal.loop-instance-preserved
loop-instance-preserved c =
    let test = c.if-not-shows_at.false in
    let passed : c.shows_at.result ≡ true = cc in
    λ n l. elim (cases_lt n c.loop-instance.instance) [
      | inl below ↦ c.loop-instance.invariant n below
      | inr at ↦
          let same : c.loop-instance.instance ≡ n = omega arith in
          subst (λ k. ShowsWhere c.args.config.now c.args.start.now k) same (c.shows_at.ensures.0 passed)
    ]
