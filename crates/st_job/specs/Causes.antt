-- The job over its two files: what of them decides how it ends. This project's profile.
use Rattle.std.specs.Prelude.{◌≡◌, ℕ, false, true, List}
use Rattle.job_ends.specs.Causes.{is_traced}
use Rattle.job_ends.specs.Courses.{Job, both_job}
use Rattle.machine_config.specs.declared.machine.Machine.{Machine}
use Rattle.st_check.specs.Reading.{reading_of}
use Rattle.job_ends.specs.Machines.{most_bytes}
use Rattle.st_job.specs.Machines.{st_machine_of}

-- the first file is read as a machine, and the second as its tasks; the files decide what is
-- reported of their texts, and where they give both there is a trace
abbrev pub st_job : List ℕ → List ℕ → Job
st_job config program = both_job config most_bytes st_machine_of program most_bytes
    (λ (m : Machine). reading_of m.config) (λ given wanted. ⊥) false (λ s. is_traced s ≡ true)
