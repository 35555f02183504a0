-- The names that are left lead where all led, and stay the same.
use Rattle.std.proofs.Common.{◌≡◌}
use Rattle.std.specs.Prelude.{drop}
use Rattle.iec_declared.specs.Declarations.{all_defined}
use Rattle.iec_declared.proofs.declared.Declarations.define_all.Given as goal

abbrev pub invariant-loop-place : goal.invariant-loop-place
invariant-loop-place l = record {
  names : l.self.together ≡ l.fn.self.together;
  rest : all_defined (drop l.place l.fn.self.together) l.value l.self ≡ all_defined l.fn.self.together l.value l.fn.self;
}
