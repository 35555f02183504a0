-- The machine that a text opens. This project's profile.
use Rattle.std.specs.Prelude.{◌≡◌, ℕ, List, [], ◌∷◌, ◌++◌, codes, Option, Some, None, Ok, Err}
use Rattle.bench_text.specs.BenchState.{BenchState}
use Rattle.bench_text.specs.Reading.{bench_of}
use Rattle.lasting_kernel.specs.Lasting as lasting
use Rattle.motion_history.specs.Setup.{Setup}
use Rattle.motion_history.specs.declared.refused.TextRefused.{TextRefused}
use Rattle.motion_history.specs.declared.refused.TraceVersion.{TraceVersion}
use Rattle.motion_c.specs.declared.machine.Machine.{Machine}
use Rattle.motion_c.specs.declared.opening.MotionRefusal.{MotionRefusal}

-- a machine's text is a bench without `go` and what comes after it
abbrev pub with_go : List ℕ → List ℕ
with_go text = text ++ (10 ∷ codes "go" ++ 10 ∷ [])

-- a machine at rest, with no trace, whose traces are of this version or of the first, and whose
-- cycle has so many microseconds
abbrev pub at_rest : Setup → TraceVersion → ℕ → Machine
at_rest s v cycle_us = record {
  kernel = lasting.opened s;
  version = v;
  cycle_us = cycle_us;
  trace = None;
}

-- a text opens a machine: that of the bench that it is with `go`, which has no cycle's time
pub record Opens (text : List ℕ) (after : Option Machine) : Type 0 where
  pub bench : BenchState
  pub read : bench_of (with_go text) ≡ Ok bench
  pub opened : after ≡ Some (at_rest bench.config bench.version 0)

-- where and by which rule a text is refused is reported
pub record IsTold (refused : TextRefused) (told : MotionRefusal) : Type 0 where
  pub line : told.line ≡ refused.place
  pub letter : told.letter ≡ refused.rule.letter
  pub number : told.number ≡ refused.rule.number

-- a text is refused: with `go` it is no bench, and the line and the rule are reported
pub record IsRefused (text : List ℕ) (told : MotionRefusal) : Type 0 where
  pub refused : TextRefused
  pub read : bench_of (with_go text) ≡ Err refused
  pub tells : IsTold refused told
