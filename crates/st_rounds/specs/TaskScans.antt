-- What a task of a run has made: its entries in the history are those of its scans, each with its
-- own replies. This project's profile.
use Rattle.std.specs.Prelude.{◌≡◌, ℕ, Bool, true, false, not, if◌then◌else◌, List, [], ◌∷◌, ◌++◌, filter, length}
use Rattle.plc_types.specs.declared.outputs.Outputs.{Outputs}
use Rattle.motion_history.specs.Entries.{Entry, call, end_of}
use Rattle.motion_history.specs.Setup.{Setup}
use Rattle.motion_kernel.specs.Tasks.{is_by}
use Rattle.st_exec.specs.Laws.{asks_of}
use Rattle.st_exec.specs.Scan.{Asked, Over, Stand, scan_of}
use Rattle.st_tree.specs.declared.program.Task.{Task}
use Rattle.st_rounds.specs.Cell.{Cell, TaskStand, task_at_opening}
use Rattle.st_rounds.specs.Rounds.{is_last}

-- the entries of a task in a history: the calls of its blocks, and its end
abbrev pub own_entries : Setup → ℕ → List Entry → List Entry
own_entries s n h = filter (is_by s n) h

-- the entries of calls that got these replies, as far as they did
abbrev pub entries_of : List Asked → List Outputs → List Entry
entries_of (a ∷ calls) (o ∷ replies) = call a.instance a.inputs o ∷ entries_of calls replies
entries_of calls replies = []

-- the end of a task, where it has ended
abbrev pub end_if : Bool → ℕ → List Entry
end_if ended n = if ended then end_of n ∷ [] else []

-- a whole scan of a task that lives: its calls got these replies, one each, and after the last
-- scan comes the task's end
pub record IsScan (c : Cell) (n : ℕ) (t : Task) (before : TaskStand) (replies : List Outputs)
    (after : TaskStand) (es : List Entry) : Type 0 where
  pub lives : before.lives ≡ true
  pub left : Stand
  pub over : scan_of c.cycle_us t.body.items before.vars before.last replies ≡ Over left
  pub each : length left.calls ≡ length replies
  pub stand : after ≡ record {
    vars = left.vars;
    last = left.last;
    lives = not (is_last t left);
  }
  pub entries : es ≡ entries_of left.calls replies ++ end_if (is_last t left) n

-- entries are those of whole scans of a task one after another, from its opening on, which leave it
-- there; their replies are given the latest first
abbrev pub AreScans : Cell → ℕ → Task → List (List Outputs) → List Entry → TaskStand → Type 0
AreScans c n t [] es d = (es ≡ []) × (d ≡ task_at_opening t)
AreScans c n t (replies ∷ earlier) es d =
    (es0 : List Entry) × (d0 : TaskStand) × (es1 : List Entry) × AreScans c n t earlier es0 d0 ×
    IsScan c n t d0 replies d es1 × (es ≡ es0 ++ es1)

-- entries are what a task has made: whole scans; and the calls of one more that got replies, where
-- the run ended in it
pub record IsMadeBy (c : Cell) (n : ℕ) (t : Task) (es : List Entry) : Type 0 where
  pub scans : List (List Outputs)
  pub whole : List Entry
  pub stand : TaskStand
  pub are : AreScans c n t scans whole stand
  pub part : List Outputs
  pub none : stand.lives ≡ false → part ≡ []
  pub entries : es ≡ whole ++
      entries_of (asks_of (scan_of c.cycle_us t.body.items stand.vars stand.last part)) part

-- entries are all that a task makes: whole scans up to its last, and its end
pub record HasEnded (c : Cell) (n : ℕ) (t : Task) (es : List Entry) : Type 0 where
  pub made : IsMadeBy c n t es
  pub ended : made.stand.lives ≡ false
