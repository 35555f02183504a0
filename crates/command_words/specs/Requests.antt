-- What the words of a call ask for. This project's profile.
use Rattle.std.specs.Prelude.{ℕ, Bool, false, not, nat_eq, if◌then◌else◌, codes, find, Option, Some, None, List, [], ◌∷◌}
use Rattle.std.specs.Int.NonZero.{non_zero_u8_get}
use Rattle.std.specs.List.{list_all}
use Rattle.std.specs.Option.{option_and_then, option_map}
use Rattle.std.specs.Str.{bytes_eq}
use Rattle.command_words.specs.Numbers.{cut_in, seed_in, workers_in}
use Rattle.command_words.specs.declared.request.Job.{Job}
use Rattle.command_words.specs.declared.request.Job.TheVariants.{Bench, Check, Migrate}
use Rattle.command_words.specs.declared.request.Request as code
use Rattle.command_words.specs.declared.request.Request.TheVariants.{File, Run, Load, StructuredText, Switches, Standby, Scope}

-- what is to be done with a file
pub record FileJob : Type 0 where
  pub job : Job
  pub name : List ℕ

-- the files of a run: the configuration of the machine, and its program or its tasks
pub record RunFiles : Type 0 where
  pub config : List ℕ
  pub program : List ℕ

-- what is reported of a trace: the edges of the cam switches that a second file has, or its scope
pub data Report : Type 0 where
  of_switches : (trace switches : List ℕ) → Report
  of_scope : (trace : List ℕ) → Report

-- what is asked: a job with a file, a run of a machine, the load of a seed, a run of tasks in
-- Structured Text, or a report
pub data Request : Type 0 where
  of_file : FileJob → Request
  of_run : RunFiles → Request
  of_load : ℕ → Request
  of_tasks : RunFiles → Request
  of_report : Report → Request

-- by whom it is to be done, which changes nothing of what is written: by one alone, by one kernel
-- and after this many events by its standby, or by this many workers
pub data Hands : Type 0 where
  alone : Hands
  handed_over : (cut : ℕ) → Hands
  shared : (workers : ℕ) → Hands

-- what is asked, and by whom it is to be done
pub record Asked : Type 0 where
  pub request : Request
  pub hands : Hands

-- a request as the code has it
abbrev pub told : code.Request → Asked
told (File job name) =
    record { request = of_file (record { job = job; name = name.now }); hands = alone }
told (Run config program) = record {
  request = of_run (record { config = config.now; program = program.now });
  hands = alone;
}
told (Load seed) = record { request = of_load seed; hands = alone }
told (StructuredText config program) = record {
  request = of_tasks (record { config = config.now; program = program.now });
  hands = alone;
}
told (Switches trace switches) =
    record { request = of_report (of_switches trace.now switches.now); hands = alone }
told (Standby name cut) = record {
  request = of_file (record { job = Bench; name = name.now });
  hands = handed_over cut;
}
told (Scope trace workers) = record {
  request = of_report (of_scope trace.now);
  hands = shared (non_zero_u8_get workers);
}

-- what is asked, as the code has it
abbrev pub request_told : code.Request → Request
request_told r = (told r).request

-- a word that may stand in a request: it is not empty, and does not begin with `-`
unfoldable pub is_plain : List ℕ → Bool
is_plain [] = false
is_plain (c ∷ cs) = not (nat_eq c 45)

-- a line of the grammar: its first word, and what it asks for with the words after
pub record Line : Type 0 where
  pub word : List ℕ
  pub asks : List (List ℕ) → Option Asked

-- FILE and TRACE: a job with the one file that is named
abbrev pub with_file : Job → List (List ℕ) → Option Asked
with_file job (name ∷ []) =
    Some (record { request = of_file (record { job = job; name = name }); hands = alone })
with_file job _ = None

-- CONFIG PROGRAM: a run of the two files that are named
abbrev pub with_config_and_program : List (List ℕ) → Option Asked
with_config_and_program (config ∷ program ∷ []) = Some (record {
  request = of_run (record { config = config; program = program });
  hands = alone;
})
with_config_and_program _ = None

-- SEED: the load of the one seed that is written
abbrev pub with_seed : List (List ℕ) → Option Asked
with_seed (word ∷ []) =
    option_map (λ seed. record { request = of_load seed; hands = alone }) (seed_in word)
with_seed _ = None

-- CONFIG FILE: a run of a machine whose tasks the second file has in Structured Text
abbrev pub with_config_and_tasks : List (List ℕ) → Option Asked
with_config_and_tasks (config ∷ program ∷ []) = Some (record {
  request = of_tasks (record { config = config; program = program });
  hands = alone;
})
with_config_and_tasks _ = None

-- TRACE FILE: the edges of the switches of a file in the trace that is named
abbrev pub with_trace_and_file : List (List ℕ) → Option Asked
with_trace_and_file (trace ∷ switches ∷ []) =
    Some (record { request = of_report (of_switches trace switches); hands = alone })
with_trace_and_file _ = None

-- FILE CUT: a bench whose kernel hands over to its standby after this many events
abbrev pub with_file_and_cut : List (List ℕ) → Option Asked
with_file_and_cut (name ∷ word ∷ []) = option_map (λ cut. record {
  request = of_file (record { job = Bench; name = name });
  hands = handed_over cut;
}) (cut_in word)
with_file_and_cut _ = None

-- TRACE WORKERS: the scope report of the trace that is named, made by this many workers
abbrev pub with_trace_and_workers : List (List ℕ) → Option Asked
with_trace_and_workers (trace ∷ word ∷ []) = option_map (λ workers. record {
  request = of_report (of_scope trace);
  hands = shared workers;
}) (workers_in word)
with_trace_and_workers _ = None

-- bench FILE, run CONFIG PROGRAM, check TRACE, gen SEED, migrate TRACE, st CONFIG FILE, switches
-- TRACE FILE, standby FILE CUT, scope TRACE WORKERS
abbrev pub grammar : List Line
grammar =
    record { word = codes "bench"; asks = with_file Bench }
    ∷ record { word = codes "run"; asks = with_config_and_program }
    ∷ record { word = codes "check"; asks = with_file Check }
    ∷ record { word = codes "gen"; asks = with_seed }
    ∷ record { word = codes "migrate"; asks = with_file Migrate }
    ∷ record { word = codes "st"; asks = with_config_and_tasks }
    ∷ record { word = codes "switches"; asks = with_trace_and_file }
    ∷ record { word = codes "standby"; asks = with_file_and_cut }
    ∷ record { word = codes "scope"; asks = with_trace_and_workers }
    ∷ []

-- what the line of the first word asks for with the words after it
unfoldable pub asked_by : List (List ℕ) → Option Asked
asked_by [] = None
asked_by (word ∷ operands) = option_and_then (λ (line : Line). line.asks operands)
    (find (λ (line : Line). bytes_eq line.word word) grammar)

-- what the words ask for, and by whom it is to be done, if they are a request
unfoldable pub asked_in : List (List ℕ) → Option Asked
asked_in words = if list_all is_plain words then asked_by words else None

-- what the words ask for, if they are a request
abbrev pub asked_of : List (List ℕ) → Option Request
asked_of words = option_map (λ (a : Asked). a.request) (asked_in words)

-- the job with a file that is asked
abbrev pub file_of : Request → Option FileJob
file_of (of_file r) = Some r
file_of _ = None

-- the files of the run that is asked
abbrev pub files_of : Request → Option RunFiles
files_of (of_run r) = Some r
files_of _ = None

-- the files of the run of tasks in Structured Text that is asked
abbrev pub tasks_of : Request → Option RunFiles
tasks_of (of_tasks r) = Some r
tasks_of _ = None

-- the seed of the load that is asked
abbrev pub load_of : Request → Option ℕ
load_of (of_load seed) = Some seed
load_of _ = None

-- the report that is asked
abbrev pub told_report : Request → Option Report
told_report (of_report r) = Some r
told_report _ = None

-- the job with a file that the words ask for: that of a standby is its bench
abbrev pub request_of : List (List ℕ) → Option FileJob
request_of words = option_and_then file_of (asked_of words)

-- the files of the run that the words ask for
abbrev pub run_of : List (List ℕ) → Option RunFiles
run_of words = option_and_then files_of (asked_of words)

-- the files of the run of tasks in Structured Text that the words ask for
abbrev pub tasks_run_of : List (List ℕ) → Option RunFiles
tasks_run_of words = option_and_then tasks_of (asked_of words)

-- the seed of the load that the words ask for
abbrev pub seed_of : List (List ℕ) → Option ℕ
seed_of words = option_and_then load_of (asked_of words)

-- the report that the words ask for
abbrev pub report_of : List (List ℕ) → Option Report
report_of words = option_and_then told_report (asked_of words)
