-- The items so far are the same.
use Rattle.std.proofs.Common.{◌≡◌, take}
use Rattle.motion_c.proofs.sameness.are_same.Given as goal

abbrev pub invariant-loop-at : goal.invariant-loop-at
invariant-loop-at g l = take l.at l.first ≡ take l.at l.second
