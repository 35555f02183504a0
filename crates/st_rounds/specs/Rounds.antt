-- The run of a machine with tasks in Structured Text: round after round, in which every task that
-- lives makes one scan, in the order of the tasks, and then one cycle is made. Each event is made
-- as bench_run's specs/Run says, so that a run that has ended stays as it is. This project's
-- profile.
use Rattle.std.specs.Prelude.{ℕ, zero, suc, ◌+◌, Bool, not, if◌then◌else◌, Option, Some, None, List, [], ◌∷◌, ◌++◌, length, map, slice_get}
use Rattle.std.specs.List.{list_any}
use Rattle.bench_run.specs.Run.{Run, a_call, a_cycle, an_end, first_run, made}
use Rattle.plc_types.specs.declared.outputs.Outputs.{Outputs}
use Rattle.machine_drives.specs.Drives.{drives_at_opening}
use Rattle.motion_history.specs.Setup.{Setup}
use Rattle.motion_kernel.specs.Histories.{machine_after}
use Rattle.motion_kernel.specs.calls.Calls.{reply_of}
use Rattle.st_exec.specs.Compiled.{is_ended, program_of}
use Rattle.st_exec.specs.Scan.{Asked, Course, Over, Waits, Missing, Stand, scan_of}
use Rattle.st_tree.specs.declared.program.Task.{Task}
use Rattle.st_rounds.specs.Cell.{Cell, TaskStand, task_at_opening}

-- a run so far, and where one of its tasks stands
pub record Turn : Type 0 where
  pub run : Run
  pub stand : TaskStand

-- a run so far, and where its tasks stand
pub record Round : Type 0 where
  pub run : Run
  pub stands : List TaskStand

-- ---- a scan

-- the machine's reply to a call after a run
abbrev pub reply_behind : Setup → Run → Asked → Outputs
reply_behind s r a = reply_of s (machine_after s r.history) a.instance a.inputs

-- a call after a run
abbrev pub with_call : Setup → Asked → Run → Run
with_call s a r = made s (a_call a.instance a.inputs) r

-- whether the scan that leaves this was the task's last
abbrev pub is_last : Task → Stand → Bool
is_last t left = is_ended (program_of t).finished left.vars

-- a scan is over: where it was the last of the task of this number, its end comes right after it
abbrev pub scanned : Cell → ℕ → Task → Stand → Run → Turn
scanned c n t left r = record {
  run = if is_last t left then made c.setup (an_end n) r else r;
  stand = record { vars = left.vars; last = left.last; lives = not (is_last t left) };
}

-- a scan goes on after the call for whose reply it waits
abbrev pub called : Cell → (List Outputs → Run → Turn) → TaskStand → List Outputs → Run →
    Option Asked → Turn
called c on d got r None = record { run = r; stand = d }
called c on d got r (Some a) =
    on (got ++ reply_behind c.setup r a ∷ []) (with_call c.setup a r)

-- what is made by the course of a scan with the replies that it got: the call after those that
-- were answered, or what comes of its end
abbrev pub made_by : Cell → ℕ → Task → (List Outputs → Run → Turn) → TaskStand → List Outputs →
    Run → Course → Turn
made_by c n t on d got r (Over left) = scanned c n t left r
made_by c n t on d got r (Waits calls) = called c on d got r (slice_get calls (length got))
made_by c n t on d got r Missing = record { run = r; stand = d }

-- a scan goes on after the replies that it got, by at most this many steps: calls, and its end
unfoldable pub scan_on : ℕ → Cell → ℕ → Task → TaskStand → List Outputs → Run → Turn
scan_on zero c n t d got r = record { run = r; stand = d }
scan_on (suc steps) c n t d got r =
    made_by c n t (scan_on steps c n t d) d got r
    (scan_of c.cycle_us t.body.items d.vars d.last got)

-- a scan of the task of this number. It has at most one call more than the history has room for,
-- since that one ends the run
abbrev pub scan : Cell → ℕ → Task → TaskStand → Run → Turn
scan c n t d r = scan_on (c.setup.entries + 1) c n t d [] r

-- ---- rounds

-- the turn of a task: a scan, where it lives
unfoldable pub turn : Cell → ℕ → Task → TaskStand → Run → Turn
turn c n t d r = if d.lives then scan c n t d r else record { run = r; stand = d }

-- the turns of tasks one after another, the first that of this number
unfoldable pub turns : Cell → ℕ → List Task → List TaskStand → Run → Round
turns c n (t ∷ ts) (d ∷ ds) r =
    let first = turn c n t d r in
    let others = turns c (suc n) ts ds first.run in
    record { run = others.run; stands = first.stand ∷ others.stands }
turns c n ts ds r = record { run = r; stands = [] }

-- whether a task lives
abbrev pub any_lives : List TaskStand → Bool
any_lives ds = list_any (λ (d : TaskStand). d.lives) ds

-- what comes after the turns of a round: a cycle and the next round where a task lives, else the
-- end
abbrev pub continued : Cell → (List TaskStand → Run → Run) → Round → Run
continued c on x = if any_lives x.stands then on x.stands (made c.setup a_cycle x.run) else x.run

-- at most this many rounds, one after another
unfoldable pub rounds : ℕ → Cell → List TaskStand → Run → Run
rounds zero c ds r = r
rounds (suc more) c ds r = continued c (rounds more c) (turns c 0 c.trees ds r)

-- the run of a machine with its tasks: rounds until no task lives. There is at most one more than
-- cycles are left, since it ends the run where a task lives after it
unfoldable pub run_of : Cell → Run
run_of c =
    rounds (c.setup.cycles + 1) c (map task_at_opening c.trees)
    (first_run (drives_at_opening c.setup.axes c.drives))
