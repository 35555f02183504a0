-- What holds of names, and of the replies of all blocks.
use Rattle.std.specs.Prelude.{◌≡◌, ℕ, Some}
use Rattle.std.specs.List.{AllByRecursion}
use Rattle.iec_tree.specs.declared.standard.Standard.{Standard}
use Rattle.iec_tree.specs.declared.standard.Standard.TheVariants as standard
use Rattle.iec_blocks.specs.Inputs.{inputs_of, input_named, outputs_of, output_named}
use Rattle.iec_blocks.specs.Timers.{preset_of}
use Rattle.iec_blocks.specs.declared.call.Call.{Call}

-- each name of an input or output of a block is read as that one
pub record AreReadBack (s : Standard) : Type 0 where
  pub inputs : AllByRecursion (λ row. input_named s row.0 ≡ Some row.1) (inputs_of s)
  pub outputs : AllByRecursion (λ row. output_named s row.0 ≡ Some row.1) (outputs_of s)

-- the greatest value of a block at a call: PT of a timer, 32767 of a counter
abbrev pub most_value : Standard → Call → ℕ
most_value standard.Ton call = preset_of call
most_value standard.Tof call = preset_of call
most_value standard.Tp call = preset_of call
most_value standard.Ctu call = 32767
most_value s call = 0
