-- The inputs and outputs of the standard function blocks, with their names in capitals. IEC
-- 61131-3, 2.5.2.3, in this project's profile.
use Rattle.std.specs.Prelude.{ℕ, codes, Option, List, [], ◌∷◌}
use Rattle.std.specs.Map.{lookup}
use Rattle.std.specs.Str.{str_eq_ignore_ascii_case}
use Rattle.iec_tree.specs.declared.elementary.Elementary.{Elementary}
use Rattle.iec_tree.specs.declared.elementary.Elementary.TheVariants as type
use Rattle.iec_tree.specs.declared.standard.Standard.{Standard}
use Rattle.iec_tree.specs.declared.standard.Standard.TheVariants.{Ton, Tof, Tp, RTrig, FTrig, Ctu, Sr, Rs}
use Rattle.iec_blocks.specs.declared.inputs.Input.{Input}
use Rattle.iec_blocks.specs.declared.inputs.Input.TheVariants.{Signal, Reset, Preset}
use Rattle.iec_blocks.specs.declared.inputs.Output.{Output}
use Rattle.iec_blocks.specs.declared.inputs.Output.TheVariants.{Flag, Value}

-- the inputs of each block; some have two names
unfoldable pub inputs_of : Standard → List (List ℕ × Input)
inputs_of Ton = (codes "IN", Signal) ∷ (codes "PT", Preset) ∷ []
inputs_of Tof = (codes "IN", Signal) ∷ (codes "PT", Preset) ∷ []
inputs_of Tp = (codes "IN", Signal) ∷ (codes "PT", Preset) ∷ []
inputs_of RTrig = (codes "CLK", Signal) ∷ []
inputs_of FTrig = (codes "CLK", Signal) ∷ []
inputs_of Ctu =
    (codes "CU", Signal) ∷ (codes "RESET", Reset) ∷ (codes "R", Reset) ∷ (codes "PV", Preset) ∷ []
inputs_of Sr =
    (codes "S1", Signal) ∷ (codes "SET1", Signal) ∷ (codes "R", Reset) ∷ (codes "RESET", Reset) ∷ []
inputs_of Rs =
    (codes "S", Signal) ∷ (codes "SET", Signal) ∷ (codes "R1", Reset) ∷ (codes "RESET1", Reset) ∷ []

-- the outputs of each block
unfoldable pub outputs_of : Standard → List (List ℕ × Output)
outputs_of Ton = (codes "Q", Flag) ∷ (codes "ET", Value) ∷ []
outputs_of Tof = (codes "Q", Flag) ∷ (codes "ET", Value) ∷ []
outputs_of Tp = (codes "Q", Flag) ∷ (codes "ET", Value) ∷ []
outputs_of RTrig = (codes "Q", Flag) ∷ []
outputs_of FTrig = (codes "Q", Flag) ∷ []
outputs_of Ctu = (codes "Q", Flag) ∷ (codes "CV", Value) ∷ []
outputs_of Sr = (codes "Q1", Flag) ∷ []
outputs_of Rs = (codes "Q1", Flag) ∷ []

-- the input of this name, in any case of letters
unfoldable pub input_named : Standard → List ℕ → Option Input
input_named s name = lookup (str_eq_ignore_ascii_case name) (inputs_of s)

-- the output of this name, in any case of letters
unfoldable pub output_named : Standard → List ℕ → Option Output
output_named s name = lookup (str_eq_ignore_ascii_case name) (outputs_of s)

-- the type of PV and CV, and of PT and ET
unfoldable pub number_type : Standard → Elementary
number_type Ctu = type.Int
number_type s = type.Time

-- the type of each input
unfoldable pub input_type : Standard → Input → Elementary
input_type s Signal = type.Bool
input_type s Reset = type.Bool
input_type s Preset = number_type s

-- the type of each output
unfoldable pub output_type : Standard → Output → Elementary
output_type s Flag = type.Bool
output_type s Value = number_type s
