-- No reason so far holds.
use Rattle.std.proofs.Common.{◌≡◌, drop}
use Rattle.group_core.specs.Asking.{asked_of}
use Rattle.group_core.specs.Refusals.{first_holding}
use Rattle.group_core.proofs.refusing.refusal_of.Given as goal

abbrev pub invariant-loop-reason : goal.invariant-loop-reason
invariant-loop-reason l =
    first_holding (asked_of l.asking) l.reason-items ≡ first_holding (asked_of l.asking) (drop l.reason-index l.reason-items)
