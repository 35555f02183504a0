-- The second of two moves, after a step that crossed. This project's profile.
use Rattle.std.specs.Prelude.{ℕ, zero, suc, ℤ, ◌+ℤ◌}
use Rattle.plc_types.specs.declared.limits.Limits.{Limits}
use Rattle.kin_core.specs.Toward.{IsTowards}
use Rattle.command_pool.specs.declared.rates.Rates.{Rates}
use Rattle.trapezoid_plan.specs.MoveRun.{move_taken_of}

-- none of the next n taken steps of the move leads away from its target or past it
abbrev pub NeverPasses : ℕ → Limits → Rates → ℤ → ℤ → ℤ → Type 0
NeverPasses zero limits rates target before now = Unit {0}
NeverPasses (suc n) limits rates target before now =
    IsTowards target now (now +ℤ move_taken_of limits rates target before now)
    × NeverPasses n limits rates target now (now +ℤ move_taken_of limits rates target before now)
