-- The machine of a job in Structured Text. Structured Text of version 3 isn't read yet, so the
-- configuration is one before version 3. This project's profile.
use Rattle.std.specs.Prelude.{ℕ, nat_lt, if◌then◌else◌, Option, Result, Ok, Err, List}
use Rattle.job_ends.specs.Files.{GivesReading, NoReading}
use Rattle.job_ends.specs.Machines.{most_bytes}
use Rattle.job_ends.specs.declared.status.Status.{Status}
use Rattle.machine_config.specs.Configured.{Configures}
use Rattle.machine_config.specs.Reading.{machine_of, refused_at}
use Rattle.machine_config.specs.RuleNumbers.{out_of_range}
use Rattle.machine_config.specs.declared.machine.Machine.{Machine}
use Rattle.motion_history.specs.Versions.{number_of}
use Rattle.motion_history.specs.declared.refused.TextRefused.{TextRefused}
use Rattle.outside.specs.Told.{FileMap}
use Rattle.trace_text.specs.writing.Writes.{Output}

-- a machine of version 3 is refused at the top of its configuration: its version is out of range
abbrev pub before_three : Result Machine TextRefused → Result Machine TextRefused
before_three (Err refused) = Err refused
before_three (Ok m) =
    if nat_lt (number_of m.version) 3 then Ok m else Err (refused_at 0 out_of_range)

-- the machine that a text configures
unfoldable pub st_machine_of : List ℕ → Result Machine TextRefused
st_machine_of text = before_three (machine_of text)

-- the first file configures this machine, or gives none
abbrev pub GivesMachine : Option FileMap → List ℕ → Machine → Type 0
GivesMachine told name m = GivesReading told name most_bytes st_machine_of Configures m

abbrev pub NoMachine : Option FileMap → Type 0 → List ℕ → Output → Output → Status → Type 0
NoMachine told rose name old new s = NoReading told rose 1 name most_bytes st_machine_of old new s
