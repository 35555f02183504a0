-- Tasks before their first scans.
use Rattle.std.specs.Prelude.{◌≡◌, true, List, map, replicate}
use Rattle.st_exec.specs.Compiled.{Compiled, TaskProgram}
use Rattle.st_exec.specs.Values.{silent}
use Rattle.st_rounds.specs.Cell.{TaskStand}
use Rattle.st_rounds.specs.Players.{ArePlaying, stand_of}
use Rattle.st_rounds.specs.declared.player.Player.{Player}

-- where a task stands before its first scan, by its code
abbrev pub opening_of : TaskProgram → TaskStand
opening_of p = record { vars = p.start; last = replicate 256 silent; lives = true }

-- tasks of a code are before their first scans
pub record AreOpened (code : Compiled) (ps : List Player) : Type 0 where
  pub playing : ArePlaying code 0 ps
  pub stands : map stand_of ps ≡ map opening_of code.tasks
