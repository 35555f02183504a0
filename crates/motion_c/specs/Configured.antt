-- The machine that a configuration and a program open. This project's profile.
use Rattle.std.specs.Prelude.{◌≡◌, ℕ, List, Option, Some, Result, Ok, Err}
use Rattle.line_text.specs.Reading.{◌>>=◌}
use Rattle.machine_config.specs.Reading.{machine_of}
use Rattle.machine_config.specs.declared.machine.Machine.{Machine}
use Rattle.motion_c.specs.Opened.{IsTold, at_rest}
use Rattle.motion_c.specs.declared.configuring.BothRead.{BothRead}
use Rattle.motion_c.specs.declared.machine.Machine as held
use Rattle.motion_c.specs.declared.opening.MotionRefusal.{MotionRefusal}
use Rattle.motion_history.specs.declared.refused.TextFault.{TextFault}
use Rattle.motion_history.specs.declared.refused.TextFault.TheVariants.{Refused, OutOfMemory}
use Rattle.motion_history.specs.declared.refused.TextRefused.{TextRefused}
use Rattle.plc_program.specs.Reading.{Outcome, program_of}
use Rattle.plc_program.specs.declared.program.Instruction.{Instruction}

-- the reading of a configuration, and of a program over it: its lines, and the machine with its
-- tasks and blocks; or the refusal of the one that breaks a rule, of the configuration first
abbrev pub reading_of : List ℕ → List ℕ → Result Outcome TextRefused
reading_of config program =
    machine_of config >>= λ (m : Machine). program_of m.version m.cycle_us m.config program

-- what was read of both is the machine of this reading, with the configuration's version and cycle
pub record IsOfBoth (config program : List ℕ) (c : BothRead) : Type 0 where
  pub machine : Machine
  pub configured : machine_of config ≡ Ok machine
  pub lines : List (List Instruction)
  pub read : reading_of config program ≡ Ok (record { program = lines; setup = c.config })
  pub version : c.version ≡ machine.version
  pub cycle : c.cycle_us ≡ machine.cycle_us

-- what was read of both is the machine of this reading, or its refusal; or memory ran out
abbrev pub ReadsBoth : List ℕ → List ℕ → Result BothRead TextFault → Type 0
ReadsBoth config program (Ok c) = IsOfBoth config program c
ReadsBoth config program (Err (Refused r)) = reading_of config program ≡ Err r
ReadsBoth config program (Err OutOfMemory) = Unit {0}

-- a configuration and a program open a machine: that of both, at rest, with traces of the
-- configuration's version and with its cycle
pub record OpensBoth (config program : List ℕ) (after : Option held.Machine) : Type 0 where
  pub machine : Machine
  pub configured : machine_of config ≡ Ok machine
  pub outcome : Outcome
  pub read : reading_of config program ≡ Ok outcome
  pub opened : after ≡ Some (at_rest outcome.setup machine.version machine.cycle_us)

-- one of them is refused, and the line and the rule are reported
pub record IsOneRefused (config program : List ℕ) (told : MotionRefusal) : Type 0 where
  pub refused : TextRefused
  pub read : reading_of config program ≡ Err refused
  pub tells : IsTold refused told
