-- The values so far are joined.
use Rattle.std.proofs.Common.{◌≡◌, take}
use Rattle.std.specs.List.{fold}
use Rattle.iec_values.specs.Operations.{operation_value}
use Rattle.iec_values.proofs.functions.folded.Given as goal

abbrev pub invariant-loop-next : goal.invariant-loop-next
invariant-loop-next l =
    l.value ≡ fold (operation_value l.operation) l.initial.value (take l.next-index l.rest)
