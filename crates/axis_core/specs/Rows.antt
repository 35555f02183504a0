-- The driven spell of an axis.
use Rattle.std.specs.Prelude.{◌≡◌, IsTrue, ◌-ℤ◌, Option, Some, None, if◌then◌else◌}
use Rattle.axis_state.specs.Spells.{Spell, KeepsRow, spell_after}
use Rattle.plc_types.specs.declared.axis.AxisRow.{AxisRow}
use Rattle.axis_core.specs.declared.axis.Axis.{Axis}

-- the spell that an axis is in, if it is driven: its last two setpoints, less the offset. This
-- project's profile
abbrev pub spell_of : Axis → Option Spell
spell_of a =
    if a.driven
    then Some (record { before = a.previous -ℤ a.offset; now = a.setpoint -ℤ a.offset })
    else None

-- a row keeps the limits of the axis after the spell before it, where it is driven, and leads on to
-- the spell after it. This project's profile
pub record KeepsSpell (before : Axis) (row : AxisRow) (after : Axis) : Type 0 where
  pub keeps : IsTrue row.driven → KeepsRow before.limits (spell_of before) row
  pub leads : spell_after (spell_of before) row ≡ spell_of after

-- an axis stays where it is, within its limits and in its spell. This project's profile
pub record Stays (before after : Axis) : Type 0 where
  pub limits : after.limits ≡ before.limits
  pub spell : spell_of after ≡ spell_of before
