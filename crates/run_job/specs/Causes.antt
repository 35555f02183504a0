-- The job over its two files: what of them decides how it ends. This project's profile.
use Rattle.std.specs.Prelude.{◌≡◌, ◌⊎◌, ℕ, false, true, List}
use Rattle.job_ends.specs.Causes.{is_traced}
use Rattle.job_ends.specs.Courses.{Job, both_job}
use Rattle.job_ends.specs.declared.status.Status.TheVariants as status
use Rattle.machine_config.specs.Reading.{machine_of}
use Rattle.machine_config.specs.declared.machine.Machine.{Machine}
use Rattle.plc_program.specs.Reading.{program_of}
use Rattle.job_ends.specs.Machines.{most_bytes}

-- the first file is read as a machine, and the second as its program. The files decide what is
-- reported of their texts, and not how the threads interleave: where both are given, a thread was
-- refused or there is a trace
abbrev pub run_job : Type 0 → List ℕ → List ℕ → Job
run_job refused config program = both_job config most_bytes machine_of program most_bytes
    (λ (m : Machine). program_of m.version m.cycle_us m.config) (λ given wanted. ⊥) false
    (λ s. ((s ≡ status.ThreadRefused) × refused) ⊎ (is_traced s ≡ true))
