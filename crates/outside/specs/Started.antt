-- The jobs that a spawner started. This project's profile.
use Rattle.std.specs.Prelude.{ℕ, List, Option, slice_get}
use Rattle.std.specs.Option.{option_flatten}

-- what a spawner has started and refused
pub record Started (J : Type 0) : Type 0 where
  -- the jobs started by their numbers, each until it is joined
  pub jobs : List (Option J)
  -- the numbers of the starts that are refused, counted from 1
  pub refused : List ℕ
  -- how many starts were asked for, up to the end of 32 bits
  pub starts : ℕ
  -- how many threads were refused, up to the end of 64 bits
  pub faults : ℕ

-- the job of a number that was started and not joined yet
abbrev pub job_of : {J : Type 0} → Started J → ℕ → Option J
job_of s number = option_flatten (slice_get s.jobs number)
