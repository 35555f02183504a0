-- No reason so far holds.
use Rattle.std.proofs.Common.{◌≡◌, drop}
use Rattle.axis_core.specs.Asking.{asked_of}
use Rattle.axis_core.specs.Refusals.{first_holding}
use Rattle.axis_core.proofs.refusing.first_holding.Given as goal

abbrev pub invariant-loop-reason : goal.invariant-loop-reason
invariant-loop-reason l =
    first_holding (asked_of l.asking) l.reasons ≡ first_holding (asked_of l.asking) (drop l.reason-index l.reasons)
