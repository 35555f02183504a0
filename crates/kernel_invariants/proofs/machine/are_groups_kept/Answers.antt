-- One group more is looked at.
use Rattle.std.proofs.Common.{◌≡◌, true, arith, subst, inl, inr}
use Rattle.std.proofs.lemmas.Bool.{cases_lt}
use Rattle.motion_kernel.specs.kept.Machine.{IsGroupKept}
use Rattle.kernel_invariants.proofs.machine.are_groups_kept.Goals as goal

pub loop-group-preserved : goal.loop-group-preserved
loop-group-preserved c =
    let test = c.if-not-is_group_at.false in
    let passed : c.is_group_at.result ≡ true = cc in
    λ n l. elim (cases_lt n c.loop-group.group) [
      | inl below ↦ c.loop-group.invariant n below
      | inr at ↦
          let same : c.loop-group.group ≡ n = omega arith in
          subst (IsGroupKept c.args.config.now c.args.start.now) same (c.is_group_at.ensures.0 passed)
    ]
