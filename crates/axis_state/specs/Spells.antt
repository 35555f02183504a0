-- The rows of an axis while it is driven, and when they keep its limits.
use Rattle.std.specs.Prelude.{IsTrue, if◌then◌else◌, ℤ, ◌+ℤ◌, ◌-ℤ◌, ◌≤ℤ◌, Option, Some, None, List, [], ◌∷◌}
use Rattle.plc_types.specs.declared.limits.Limits.{Limits}
use Rattle.kin_core.specs.Admissible.{IsAdmissible}
use Rattle.plc_types.specs.declared.axis.AxisDef.{AxisDef}
use Rattle.plc_types.specs.declared.axis.AxisRow.{AxisRow}

-- the last two setpoints of a driven spell, less the offset. This project's profile
pub record Spell : Type 0 where
  pub before : ℤ
  pub now : ℤ

-- a spell that stands where it begins: the place twice. This project's profile
abbrev pub standing_at : ℤ → Spell
standing_at place = record { before = place; now = place }

-- a ready axis opens in a spell that stands at its start, another in none. This project's profile
abbrev pub opening_spell : AxisDef → Option Spell
opening_spell d = if d.ready then Some (standing_at d.start) else None

-- the spell with one row more, or begun by it. This project's profile
abbrev pub spell_with : Option Spell → ℤ → Spell
spell_with None place = standing_at place
spell_with (Some s) place = record { before = s.now; now = place }

-- the spell after a row; a row that is not driven ends it. This project's profile
abbrev pub spell_after : Option Spell → AxisRow → Option Spell
spell_after s r = if r.driven then Some (spell_with s (r.setpoint -ℤ r.offset)) else None

-- a driven row is admissible after the spell's rows before it, all with the row's offset, so that
-- Home is no step; the first of a spell lies within lo and hi. This project's profile
abbrev pub KeepsRow : Limits → Option Spell → AxisRow → Type 0
KeepsRow l None r = (l.lo ≤ℤ r.setpoint) × (r.setpoint ≤ℤ l.hi)
KeepsRow l (Some s) r = IsAdmissible l (s.before +ℤ r.offset) (s.now +ℤ r.offset) r.setpoint

-- each driven row keeps the limits of position, velocity, acceleration and braking. This project's
-- profile
abbrev pub KeepsLimits : Limits → Option Spell → List AxisRow → Type 0
KeepsLimits l s [] = Unit {0}
KeepsLimits l s (r ∷ rs) = (IsTrue r.driven → KeepsRow l s r) × KeepsLimits l (spell_after s r) rs
