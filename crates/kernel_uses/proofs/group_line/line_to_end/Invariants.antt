-- It goes on from cycle to cycle, with its drives.
use Rattle.std.specs.Prelude.{◌≡◌, length}
use Rattle.kernel_uses.specs.Uses.{GoesOn}
use Rattle.kernel_uses.proofs.group_line.line_to_end.Given as goal

abbrev pub invariant-loop : goal.invariant-loop
invariant-loop l =
    GoesOn l.initial.kernel l.kernel × (length l.drives ≡ length l.initial.drives)
