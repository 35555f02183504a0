-- The rules of a trace segment by their numbers. This project's profile.
use Rattle.std.specs.Prelude.{ℕ}

-- no blank line ends the header
abbrev pub no_blank_line : ℕ
no_blank_line = 1

-- the first line gives no trace segment of version 1, and what was before it
abbrev pub no_trace_segment : ℕ
no_trace_segment = 2

-- the kind is unknown, or doesn't stand here
abbrev pub out_of_place : ℕ
out_of_place = 3

-- the fields aren't those of the kind, each as it is written
abbrev pub no_value : ℕ
no_value = 4

-- the machine has no more of the kind, or eight commands wait already
abbrev pub too_many : ℕ
too_many = 5

-- the header ends before the machine is whole
abbrev pub too_short : ℕ
too_short = 6
