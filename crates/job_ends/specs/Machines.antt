-- What the first file of a job over two files gives: a machine. This project's profile.
use Rattle.std.specs.Prelude.{◌^◌, ℕ, Option, List}
use Rattle.job_ends.specs.Files.{GivesReading, NoReading}
use Rattle.job_ends.specs.declared.status.Status.{Status}
use Rattle.machine_config.specs.Configured.{Configures}
use Rattle.machine_config.specs.Reading.{machine_of}
use Rattle.machine_config.specs.declared.machine.Machine.{Machine}
use Rattle.outside.specs.Told.{FileMap}
use Rattle.trace_text.specs.writing.Writes.{Output}

-- the most bytes of a configuration or a program: 16 MiB
abbrev pub most_bytes : ℕ
most_bytes = 2 ^ 24

-- the first file configures this machine, or gives none
abbrev pub GivesMachine : Option FileMap → List ℕ → Machine → Type 0
GivesMachine told name m = GivesReading told name most_bytes machine_of Configures m

abbrev pub NoMachine : Option FileMap → Type 0 → List ℕ → Output → Output → Status → Type 0
NoMachine told rose name old new s = NoReading told rose 1 name most_bytes machine_of old new s
