-- The commands that the words are read with, as the crate `clap` has them: what it finds in the
-- words, and what that asks for.
use Rattle.std.specs.Prelude.{◌≡◌, true, false, if◌then◌else◌, codes, Option, None, List, [], ◌∷◌}
use Rattle.std.specs.List.{fold}
use Rattle.std.specs.Option.{option_and_then, option_map}
use Rattle.std.specs.Str.{bytes_eq}
use Rattle.clap.specs.Simple.{new_shape}
use Rattle.clap.specs.declared.builder.command.Command.{Command}
use Rattle.clap.specs.declared.builder.command.Command.TheViews.{out-Command}
use Rattle.clap.specs.Words.{App, Row, Rule, Text, app_of, first_of, new_app, new_rule, with_rule, with_subcommand}
use Rattle.command_words.specs.Numbers.{cut_in, seed_in, workers_in}
use Rattle.command_words.specs.Requests.{Asked, alone, handed_over, of_file, of_load, of_report, of_run, of_tasks, of_scope, of_switches, shared}
use Rattle.command_words.specs.declared.request.Job.{Job}
use Rattle.command_words.specs.declared.request.Job.TheVariants.{Bench, Check, Migrate}

-- a word that has to stand after a command's name
abbrev pub operand : Text → Rule
operand name = record (new_rule name) { required = true }

-- a command with one operand
abbrev pub command_of_one : Text → Text → App
command_of_one name only = with_rule (new_app name) (operand only)

-- a command with two operands
abbrev pub command_of_two : Text → Text → Text → App
command_of_two name first second = with_rule (command_of_one name first) (operand second)

-- the program without its commands: it wants one, and has none but its own
abbrev pub bare_motion : App
bare_motion = record {
  top = record (new_shape (codes "motion")) {
    no_binary_name = true;
    disable_help_flag = true;
    disable_help_subcommand = true;
    subcommand_required = true;
  };
  subs = [];
}

-- the commands in their order: bench FILE, run CONFIG PROGRAM, check TRACE, gen SEED, migrate
-- TRACE, st CONFIG FILE, switches TRACE FILE, standby FILE CUT, scope TRACE WORKERS
abbrev pub commands : List App
commands =
    command_of_one (codes "bench") (codes "FILE")
    ∷ command_of_two (codes "run") (codes "CONFIG") (codes "PROGRAM")
    ∷ command_of_one (codes "check") (codes "TRACE")
    ∷ command_of_one (codes "gen") (codes "SEED")
    ∷ command_of_one (codes "migrate") (codes "TRACE")
    ∷ command_of_two (codes "st") (codes "CONFIG") (codes "FILE")
    ∷ command_of_two (codes "switches") (codes "TRACE") (codes "FILE")
    ∷ command_of_two (codes "standby") (codes "FILE") (codes "CUT")
    ∷ command_of_two (codes "scope") (codes "TRACE") (codes "WORKERS")
    ∷ []

-- a program with commands after those that it has
abbrev pub with_commands : App → List App → App
with_commands = fold (λ program (own : App). with_subcommand program own.top)

-- the program with its commands
abbrev pub motion : App
motion = with_commands bare_motion commands

-- a command is this, and has no argument that its own commands share
pub record IsCommand (app : App) (command : Command) : Type 0 where
  pub shape : app_of command ≡ app
  pub local : (out-Command command).has_globals ≡ false

-- a job with the file that an operand names
abbrev pub file_in : Job → Option Text → Option Asked
file_in job = option_map (λ name.
    record { request = of_file (record { job = job; name = name }); hands = alone })

-- a run with the files that two operands name
abbrev pub run_in : Option Text → Option Text → Option Asked
run_in config program = option_and_then (λ c. option_map (λ p.
    record { request = of_run (record { config = c; program = p }); hands = alone }) program) config

-- the load of the seed that an operand is
abbrev pub load_in : Option Text → Option Asked
load_in = option_and_then (λ word.
    option_map (λ seed. record { request = of_load seed; hands = alone }) (seed_in word))

-- a run of tasks in Structured Text with the files that two operands name
abbrev pub tasks_in : Option Text → Option Text → Option Asked
tasks_in config program = option_and_then (λ c. option_map (λ p.
    record { request = of_tasks (record { config = c; program = p }); hands = alone }) program) config

-- the switches of a trace, with the files that two operands name
abbrev pub switches_in : Option Text → Option Text → Option Asked
switches_in trace switches = option_and_then (λ t. option_map (λ s.
    record { request = of_report (of_switches t s); hands = alone }) switches) trace

-- a bench that is handed over, with the file and the cut of two operands
abbrev pub standby_in : Option Text → Option Text → Option Asked
standby_in name word = option_and_then (λ n. option_map (λ cut. record {
  request = of_file (record { job = Bench; name = n });
  hands = handed_over cut;
}) (option_and_then cut_in word)) name

-- the scope of a trace, with the file and the workers of two operands
abbrev pub scope_in : Option Text → Option Text → Option Asked
scope_in trace word = option_and_then (λ t. option_map (λ workers. record {
  request = of_report (of_scope t);
  hands = shared workers;
}) (option_and_then workers_in word)) trace

-- what a command asks for with its operands
unfoldable pub request_in : Text → List Row → Option Asked
request_in name rows =
    if bytes_eq name (codes "bench") then file_in Bench (first_of (codes "FILE") rows)
    else if bytes_eq name (codes "run")
    then run_in (first_of (codes "CONFIG") rows) (first_of (codes "PROGRAM") rows)
    else if bytes_eq name (codes "check") then file_in Check (first_of (codes "TRACE") rows)
    else if bytes_eq name (codes "gen") then load_in (first_of (codes "SEED") rows)
    else if bytes_eq name (codes "migrate") then file_in Migrate (first_of (codes "TRACE") rows)
    else if bytes_eq name (codes "st")
    then tasks_in (first_of (codes "CONFIG") rows) (first_of (codes "FILE") rows)
    else if bytes_eq name (codes "switches")
    then switches_in (first_of (codes "TRACE") rows) (first_of (codes "FILE") rows)
    else if bytes_eq name (codes "standby")
    then standby_in (first_of (codes "FILE") rows) (first_of (codes "CUT") rows)
    else if bytes_eq name (codes "scope")
    then scope_in (first_of (codes "TRACE") rows) (first_of (codes "WORKERS") rows)
    else None

-- what the command that a parse found asks for
abbrev pub request_found : Option (Text × List Row) → Option Asked
request_found = option_and_then (λ found. request_in found.0 found.1)
