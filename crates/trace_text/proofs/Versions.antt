-- The version in which a machine's trace is written can hold the machine.
-- for: trace_version
use Rattle.std.specs.Prelude.{◌≡◌, refl, true, false, nat_le, List, [], ◌∷◌}
use Rattle.std.proofs.Common.{inl, inr}
use Rattle.std.proofs.lemmas.Bool.{cases_Bool}
use Rattle.std.specs.List.{list_all}
use Rattle.plc_types.specs.KindNames.{first_version}
use Rattle.plc_types.specs.declared.kind.BlockKind.{BlockKind}
use Rattle.plc_types.specs.declared.kind.BlockKind.TheVariants as kind
use Rattle.motion_history.specs.Setup.{Setup}
use Rattle.motion_history.specs.declared.config.BlockDef.{BlockDef}
use Rattle.motion_history.specs.declared.refused.TraceVersion.{TraceVersion}
use Rattle.motion_history.specs.declared.refused.TraceVersion.TheVariants.{One, Two, Three}
use Rattle.trace_text.specs.Trace.{BrakeAlike, CanHold, has_kinds, run_version, trace_version}

has-kind : (k : BlockKind) → nat_le (first_version k) 3 ≡ true
has-kind kind.MoveAdditive = refl
has-kind _ = refl

-- version 3 has each kind
pub has-all : (blocks : List BlockDef) → has_kinds Three blocks ≡ true
unfolding has_kinds
has-all [] = refl
has-all (b ∷ bs) = rw (has-kind b.kind) (has-all bs)

-- version 3 can hold each machine
pub three-holds : (s : Setup) → CanHold Three s
three-holds s = record { braking = λ one. absurd (cc); kinds = has-all s.blocks }

-- the version in which a machine's trace is written can hold the machine
pub version-holds : (v : TraceVersion) (s : Setup) → (v ≡ One → BrakeAlike s) → CanHold (trace_version v s) s
unfolding trace_version
version-holds v s alike = elim (cases_Bool (has_kinds v s.blocks)) [
  | inl has ↦ rw has (record { braking = alike; kinds = has })
  | inr lacks ↦ rw lacks (three-holds s)
]

pub run-holds : (s : Setup) → CanHold (run_version s) s
run-holds s = version-holds Two s (λ e. absurd (cc e))
