use Rattle.std.proofs.Common.{◌≡◌, ◌<◌, ◌≤◌, ◌^◌}
use Rattle.fixed_units.specs.Spelling.{last_digits, without_end_zeros}
use Rattle.fixed_units.proofs.writing.significant_places.Given as goal

-- the number still has the significant places, and fits those that are left
abbrev pub invariant-loop-number : goal.invariant-loop-number
invariant-loop-number l = record {
  above_zero : 0 < l.number;
  fits : l.number < 10 ^ l.places;
  places : l.places ≤ 9;
  significant : without_end_zeros (last_digits l.places l.number) ≡ without_end_zeros (last_digits 9 l.fn.billionths);
}

abbrev pub decreases-loop-number : goal.decreases-loop-number
decreases-loop-number l = l.places
