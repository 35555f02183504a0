-- The versions of a bench and of a trace by their numbers. This project's profile.
use Rattle.std.specs.Prelude.{ℕ}
use Rattle.motion_history.specs.declared.refused.TraceVersion.{TraceVersion}
use Rattle.motion_history.specs.declared.refused.TraceVersion.TheVariants.{One, Two, Three}

-- the number of a version
abbrev pub number_of : TraceVersion → ℕ
number_of One = 1
number_of Two = 2
number_of Three = 3
