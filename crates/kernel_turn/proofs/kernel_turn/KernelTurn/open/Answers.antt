use Rattle.std.proofs.Common.{rules, ◌∷◌, [], List, Option, subst, sym}
use Rattle.atomic_table.specs.Table.{opening}
use Rattle.motion_kernel.specs.KernelState.{KernelState}
use Rattle.kernel_turn.specs.Rule.{Invariant}
use Rattle.kernel_turn.specs.Views.{opening_view}
use Rattle.kernel_turn.proofs.Moves.{begins}
use Rattle.kernel_turn.proofs.kernel_turn.KernelTurn.open.Goals as goal

pub new-requires : goal.new-requires
new-requires c = subst (λ (xs : List (Option KernelState)). Invariant c.of-config.result.value (opening (0 ∷ 0 ∷ []) xs (opening_view c.of-config.result.value))) (sym c.in_ok-slots.ensures) (begins _ _ (search rules) c.requires.new.0 c.requires.new.1)
