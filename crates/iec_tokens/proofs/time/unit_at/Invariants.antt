-- None of the units so far stands at the front.
use Rattle.std.proofs.Common.{◌≡◌, drop}
use Rattle.std.specs.List.{find}
use Rattle.iec_tokens.specs.Times.{begins_with, unit_text}
use Rattle.iec_tokens.specs.declared.time.TheConstants.{UNITS}
use Rattle.iec_tokens.proofs.time.unit_at.Given as goal

abbrev pub invariant-loop-unit : goal.invariant-loop-unit
invariant-loop-unit l = find (λ u. begins_with l.text (unit_text u)) UNITS ≡ find (λ u. begins_with l.text (unit_text u)) (drop l.unit-index UNITS)
