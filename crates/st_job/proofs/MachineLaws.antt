-- The machine of a job in Structured Text is one before version 3.
-- for: st_files
use Rattle.std.specs.Prelude.{◌≡◌, ◌<◌, ◌≤◌, refl, ℕ, Option, List}
use Rattle.std.proofs.Common.{inl, inr, subst}
use Rattle.std.proofs.lemmas.Bool.{le-ltb, lt-ltb}
use Rattle.job_ends.specs.Ends.{EndsBy}
use Rattle.job_ends.specs.Machines as any
use Rattle.job_ends.specs.Plans.{refused_plan}
use Rattle.job_ends.specs.declared.status.Status.{Status}
use Rattle.machine_config.specs.Reading.{refused_at}
use Rattle.machine_config.specs.RuleNumbers.{out_of_range}
use Rattle.machine_config.specs.declared.machine.Machine.{Machine}
use Rattle.motion_history.specs.Versions.{number_of}
use Rattle.outside.specs.Told.{FileMap}
use Rattle.trace_text.specs.writing.Writes.{Output}
use Rattle.st_job.specs.Machines.{GivesMachine, NoMachine, st_machine_of}

-- a machine before version 3 is taken
pub taken : (told : Option FileMap) (name : List ℕ) (m : Machine) → any.GivesMachine told name m →
    number_of m.version < 3 → GivesMachine told name m
unfolding st_machine_of
taken told name m g before = record {
  text = g.text;
  is_text = g.is_text;
  read = rw (g.read, lt-ltb (number_of m.version) 3 before) refl;
  means = g.means;
}

-- none is none
pub none : (told : Option FileMap) (rose : Type 0) (name : List ℕ) (old new : Output) (s : Status) →
    any.NoMachine told rose name old new s → NoMachine told rose name old new s
unfolding st_machine_of
none told rose name old new s (inl unread) = inl unread
none told rose name old new s (inr r) = inr (record {
  text = r.text;
  is_text = r.is_text;
  refused = r.refused;
  read = rw r.read refl;
  ends = r.ends;
})

-- one of version 3 is refused
pub later : (told : Option FileMap) (rose : Type 0) (name : List ℕ) (m : Machine)
    (old old1 new : Output) (s : Status) → any.GivesMachine told name m →
    3 ≤ number_of m.version → old1 ≡ old →
    EndsBy old1 new (refused_plan 1 name (refused_at 0 out_of_range)) s →
    NoMachine told rose name old new s
unfolding st_machine_of
later told rose name m old old1 new s g other same ends = inr (record {
  text = g.text;
  is_text = g.is_text;
  refused = refused_at 0 out_of_range;
  read = rw (g.read, le-ltb (number_of m.version) 3 other) refl;
  ends = subst (λ o. EndsBy o new (refused_plan 1 name (refused_at 0 out_of_range)) s) same ends;
})
