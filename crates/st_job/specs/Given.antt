-- What the two files of the job give. This project's profile.
use Rattle.std.specs.Prelude.{◌≡◌, ℕ, Option, Result, Ok, Err, List}
use Rattle.job_ends.specs.Files.{IsText, NoBoth, NoReading}
use Rattle.job_ends.specs.Machines.{most_bytes}
use Rattle.job_ends.specs.declared.status.Status.{Status}
use Rattle.machine_config.specs.Configured.{Configures}
use Rattle.machine_config.specs.declared.machine.Machine.{Machine}
use Rattle.motion_history.specs.declared.refused.TextFault.{TextFault}
use Rattle.motion_history.specs.declared.refused.TextFault.TheVariants.{Refused, OutOfMemory}
use Rattle.outside.specs.Told.{FileMap}
use Rattle.st_check.specs.Reading.{Outcome, reading_of}
use Rattle.st_build.specs.Spelled.{IsStText}
use Rattle.trace_text.specs.writing.Writes.{Output}
use Rattle.st_rounds.specs.Ready.{AreReady}
use Rattle.st_job.specs.Machines.{GivesMachine, st_machine_of}
use Rattle.st_rounds.specs.declared.cell.Controller.{Controller}

-- a text is the program that a controller has for a machine, and may be run
pub record IsTextOf (m : Machine) (text : List ℕ) (p : Controller) : Type 0 where
  pub outcome : Outcome
  pub read : reading_of m.config text ≡ Ok outcome
  pub spelled : IsStText m.config text p.program.tasks.items p.config
  pub cycle : p.code.us ≡ m.cycle_us
  pub drives : p.drives ≡ m.drives
  pub ready : AreReady p.config p.code.us p.program.tasks.items

-- the second file is that program, or it is none
pub record GivesProgram (told : Option FileMap) (name : List ℕ) (m : Machine) (p : Controller)
    : Type 0 where
  pub text : List ℕ
  pub is_text : IsText told name most_bytes text
  pub is : IsTextOf m text p

abbrev pub NoProgram : Option FileMap → Type 0 → List ℕ → Machine → Output → Output → Status →
    Type 0
NoProgram told rose name m old new s =
    NoReading told rose 2 name most_bytes (reading_of m.config) old new s

-- the files give a machine, and its program
pub record GivesController (told : Option FileMap) (config program : List ℕ) (p : Controller)
    : Type 0 where
  pub machine : Machine
  pub gives : GivesMachine told config machine
  pub tasks : GivesProgram told program machine p

-- they don't: the first gives no machine, or it gives one of which the second gives no program
abbrev pub NoController : Option FileMap → Type 0 → List ℕ → List ℕ → Output → Output → Status →
    Type 0
NoController told rose config program old new s =
    NoBoth told rose config program most_bytes most_bytes st_machine_of Configures
    (λ (m : Machine). reading_of m.config) old new s

-- the controller of a machine and the program that a text is, or why it is none
abbrev pub ControllerBy : Machine → List ℕ → Result Controller TextFault → Type 0
ControllerBy m text (Ok p) = IsTextOf m text p
ControllerBy m text (Err (Refused r)) = reading_of m.config text ≡ Err r
ControllerBy m text (Err OutOfMemory) = Unit {0}
