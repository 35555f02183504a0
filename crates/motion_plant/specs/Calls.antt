-- The calls among the entries of a task. This project's profile.
use Rattle.std.specs.Prelude.{◌≡◌, ℕ, List, [], ◌∷◌, ◌++◌, length, map, false}
use Rattle.kernel_turn.specs.PermitState.{PermitState}
use Rattle.motion_history.specs.Entries.{Entry, call, cycle, end_of, cycles_of}
use Rattle.motion_plant.specs.Makers.{Logged}
use Rattle.task_run.specs.declared.caller.LoggedCall.{LoggedCall}

-- the call of an entry that is one, with this many cycles before it
abbrev pub calls_in : Entry → ℕ → List LoggedCall
calls_in (call k i reply) c = record { instance = k; inputs = i; reply = reply; cycles = c } ∷ []
calls_in (cycle n rows grows) c = []
calls_in (end_of task) c = []

-- the calls among entries, each with the number of cycles before it
abbrev pub logged_calls : List Logged → List LoggedCall
logged_calls [] = []
logged_calls (l ∷ ls) = calls_in l.entry (cycles_of l.before) ++ logged_calls ls

-- the entry of a call
abbrev pub entry_of : LoggedCall → Entry
entry_of c = call c.instance c.inputs c.reply

-- entries that are all calls
abbrev pub AreCalls : List Logged → Type 0
AreCalls ls = map (λ (l : Logged). l.entry) ls ≡ map entry_of (logged_calls ls)

-- a permit has met a stop, or has seen as many entries as there is room for
abbrev pub IsCut : PermitState → Type 0
IsCut p = p.met_stop ≡ false → length p.seen ≡ p.config.entries

-- what no turn of a permit changes
abbrev pub fixed_part : PermitState → PermitState
fixed_part p = record p { seen = []; own = []; met_stop = false }
