-- What the words lead to. This project's profile.
use Rattle.std.specs.Prelude.{ℕ, ◌^◌, codes, List, [], ◌∷◌}
use Rattle.std.specs.List.{concat}
use Rattle.job_ends.specs.Plans.{Plan}
use Rattle.job_ends.specs.declared.status.Status.TheVariants as status
use Rattle.command_words.specs.declared.request.Job.{Job}
use Rattle.command_words.specs.declared.request.Job.TheVariants.{Bench, Check, Migrate}

-- the line that says which words the program takes
abbrev pub usage_line : List ℕ
usage_line = concat
    (codes "usage: motion bench FILE | run CONFIG PROGRAM | check TRACE | gen SEED | migrate TRACE"
    ∷ codes " | st CONFIG FILE | switches TRACE FILE | standby FILE CUT | scope TRACE WORKERS\n" ∷ [])

-- what faulty words lead to: they are given what the program takes
abbrev pub usage_plan : Plan
usage_plan = record { status = status.Usage; text = usage_line }

-- the most bytes of a file: 16 MiB of a bench, 256 MiB of a trace
abbrev pub most_of : Job → ℕ
most_of Bench = 2 ^ 24
most_of Check = 2 ^ 28
most_of Migrate = 2 ^ 28
