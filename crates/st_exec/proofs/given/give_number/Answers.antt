-- A DINT is itself where it wraps.
use Rattle.std.proofs.Common.{◌≡◌, ap, sym, ◌∙◌, to_z-of_z, w32}
use Rattle.std.proofs.lemmas.Int.{int_wrap_fits}
use Rattle.st_exec.specs.Scan.{with_dint}
use Rattle.st_exec.proofs.given.give_number.Goals as goal

pub returns : goal.returns
returns c =
    c.give_dint.ensures ∙
    ap (λ z. with_dint c.args.cycle_us c.args.key z c.args.inputs.now)
    (to_z-of_z c.ranges.value ∙ sym (int_wrap_fits w32 c.args.value c.ranges.value))
