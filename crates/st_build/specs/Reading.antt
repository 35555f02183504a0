-- What a text in Structured Text is read as, with its trees. This project's profile.
use Rattle.std.specs.Prelude.{◌≡◌, ℕ, Result, Ok, Err, List}
use Rattle.motion_history.specs.Setup.{Setup}
use Rattle.motion_history.specs.declared.refused.TextFault.{TextFault}
use Rattle.motion_history.specs.declared.refused.TextFault.TheVariants.{Refused, OutOfMemory}
use Rattle.motion_history.specs.declared.refused.TextRefused.{TextRefused}
use Rattle.st_check.specs.Reading.{Outcome}
use Rattle.st_check.specs.declared.text.Told.{Told}
use Rattle.st_tree.specs.Parts.{Spells}
use Rattle.st_tree.specs.declared.part.Part.{Part}
use Rattle.st_tree.specs.declared.program.StProgram.{StProgram}
use Rattle.st_tree.specs.declared.program.Task.{Task}

-- tasks and a machine are what a text was read as: the trees spell its names and parts
pub record IsRead (read : Result Outcome TextRefused) (tasks : List Task) (after : Setup) : Type 0 where
  pub outcome : Outcome
  pub is : read ≡ Ok outcome
  pub setup : outcome.setup ≡ after
  pub spelled : Spells tasks outcome.names outcome.parts

-- the answer, and what the machine is now, are this reading: the program, or the refusal; or memory
-- ran out
abbrev pub ReadsBy : Result Outcome TextRefused → Result StProgram TextFault → Setup → Type 0
ReadsBy read (Ok p) s = IsRead read p.tasks.items s
ReadsBy read (Err (Refused r)) s = read ≡ Err r
ReadsBy read (Err OutOfMemory) s = Unit {0}

-- trees spell what was reported; or memory ran out
abbrev pub IsBuilt : Told → Result StProgram TextFault → Type 0
IsBuilt told (Ok p) = Spells p.tasks.items told.names.items told.parts.items
IsBuilt told (Err (Refused r)) = ⊥
IsBuilt told (Err OutOfMemory) = Unit {0}

-- tasks spell the same names and parts
pub record SpellTheSame (a b : List Task) : Type 0 where
  pub names : List (List ℕ)
  pub parts : List Part
  pub first : Spells a names parts
  pub second : Spells b names parts

-- what was read spells the same as these tasks, and leaves the machine as they do; or memory ran
-- out
abbrev pub ReadsSame : List Task → Setup → Result StProgram TextFault → Setup → Type 0
ReadsSame tasks after (Ok p) s = SpellTheSame tasks p.tasks.items × (s ≡ after)
ReadsSame tasks after (Err (Refused r)) s = ⊥
ReadsSame tasks after (Err OutOfMemory) s = Unit {0}
