-- The exit status of the process.
use Rattle.std.specs.Prelude.{ℕ}
use Rattle.job_ends.specs.declared.status.Status.{Status}
use Rattle.job_ends.specs.declared.status.Status.TheVariants.{Ok, Legal, Illegal, Usage, TextRefused, ReadFault, TooLong, WriteFault, ThreadRefused, CyclesOver, HistoryFull, OutOfMemory}

-- the exit status by how the program ended. This project's profile
abbrev pub exit_of : Status → ℕ
exit_of Ok = 0
exit_of (Legal entries) = 0
exit_of (Illegal record_number) = 1
exit_of Usage = 2
exit_of (TextRefused word place rule) = 3
exit_of (ReadFault word) = 4
exit_of (TooLong word) = 5
exit_of WriteFault = 6
exit_of ThreadRefused = 7
exit_of CyclesOver = 8
exit_of HistoryFull = 9
exit_of OutOfMemory = 10
