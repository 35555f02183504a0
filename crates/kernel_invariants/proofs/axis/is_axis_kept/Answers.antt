-- The three parts are the whole.
use Rattle.std.proofs.Common.{sym, ◌∙◌}
use Rattle.kernel_invariants.proofs.axis.is_axis_kept.Goals as goal
use Rattle.kernel_invariants.proofs.axis.is_axis_kept.Goals.{then-is_based, else-is_based}

pub returns-then-is_in_state : goal.returns-then-is_in_state
returns-then-is_in_state c =
    elim c.if-is_based.branch [
      | then-is_based w ↦ (
        λ h. record {
          base = c.is_based.ensures.0 w.if-is_based.true;
          state = w.is_in_state.ensures.0 (sym w.value-is ∙ c.if-is_in_state.true);
          active = c.has_command.ensures.0 h;
        },
        λ k. c.has_command.ensures.1 k.active,
      )
      | else-is_based w ↦ absurd (let fails = w.value-is in let holds = c.if-is_in_state.true in cc)
    ]
