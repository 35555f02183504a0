-- Neither root nor next is below the root.
use Rattle.std.proofs.Common.{◌≡◌, ◌+◌, ◌*◌, ◌/◌, ◌^◌, ◌<◌, ◌≤◌}
use Rattle.ramp_root.proofs.roots.root.Given as goal

abbrev pub invariant-loop-next : goal.invariant-loop-next
invariant-loop-next l = record {
  some : 0 < l.root;
  size : l.root ≤ 2 ^ 60;
  not_below : l.n < (l.root + 1) * (l.root + 1);
  mean : l.next ≡ (l.root + l.n / l.root) / 2;
  next_not_below : l.n < (l.next + 1) * (l.next + 1);
}

abbrev pub decreases-loop-next : goal.decreases-loop-next
decreases-loop-next l = l.root
