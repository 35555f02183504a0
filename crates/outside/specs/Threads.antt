-- The threads of a spawner, seen as the jobs that they do. This project's profile.
use Rattle.std.specs.Prelude.{◌≤◌, length, map, option_map}
use Rattle.outside.specs.declared.spawner.Spawner.TheInside.{Inside}
use Rattle.outside.specs.Started.{Started}

-- each thread stands for the job that it does
abbrev pub started_of : {R J End : Type 0} → Inside R J End → Started J
started_of s = record {
  jobs = map (option_map (λ t. t.promise.job.value)) s.threads.items;
  refused = s.refused.items;
  starts = s.starts;
  faults = s.faults;
}

-- a spawner has started at most a thousand million jobs
abbrev pub IsSpawner : {R J End : Type 0} → Inside R J End → Type 0
IsSpawner s = length s.threads.items ≤ 1000000000
