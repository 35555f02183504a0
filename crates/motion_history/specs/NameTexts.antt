-- The texts of names that may not be there. This project's profile.
use Rattle.std.specs.Prelude.{ℕ, Option, Some, None, List, [], slice_get}
use Rattle.std.specs.Option.{option_map}
use Rattle.plc_types.specs.declared.axis.AxisDef.{AxisDef}
use Rattle.motion_history.specs.Setup.{Setup}

-- a text that is there, or none
abbrev pub text_or_none : Option (List ℕ) → List ℕ
text_or_none None = []
text_or_none (Some text) = text

-- the name of an axis by its number
unfoldable pub axis_name : Setup → ℕ → List ℕ
axis_name s n = text_or_none (option_map (λ (d : AxisDef). d.name) (slice_get s.axes n))
