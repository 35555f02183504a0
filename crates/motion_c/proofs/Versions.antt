-- The version of a machine's trace.
-- for: motion_trace
use Rattle.std.specs.Prelude.{◌≡◌, ◌⊎◌, refl, true, false, if◌then◌else◌, nat_le, Bool, List, [], ◌∷◌}
use Rattle.std.proofs.Common.{◌∙◌, ap, sym, inl, inr}
use Rattle.std.proofs.lemmas.Bool.{cases_Bool}
use Rattle.std.specs.List.{list_all}
use Rattle.plc_types.specs.KindNames.{first_version}
use Rattle.plc_types.specs.declared.kind.BlockKind.{BlockKind}
use Rattle.plc_types.specs.declared.kind.BlockKind.TheVariants as kind
use Rattle.motion_history.specs.Setup.{Setup}
use Rattle.motion_history.specs.declared.config.BlockDef.{BlockDef}
use Rattle.motion_history.specs.declared.refused.TraceVersion.{TraceVersion}
use Rattle.motion_history.specs.declared.refused.TraceVersion.TheVariants.{One, Two, Three}
use Rattle.trace_text.specs.Trace.{BrakeAlike, CanHold, has_kinds, trace_version}
use Rattle.motion_c.specs.Traces.{IsTraceVersion}

same-kind : (k : BlockKind) → nat_le (first_version k) 1 ≡ nat_le (first_version k) 2
same-kind kind.MoveAdditive = refl
same-kind _ = refl

-- versions 1 and 2 have the same kinds
same-kinds : (blocks : List BlockDef) → has_kinds One blocks ≡ has_kinds Two blocks
unfolding has_kinds
same-kinds [] = refl
same-kinds (b ∷ bs) = rw (same-kind b.kind, same-kinds bs) refl

-- a machine of a text of another version than 3, whose kinds version 2 has, needs no version 3
no-need : (opened : TraceVersion) (s : Setup) → (opened ≡ Three → ⊥) → has_kinds Two s.blocks ≡ true →
    ((opened ≡ Three) ⊎ (has_kinds Two s.blocks ≡ false)) → ⊥
no-need opened s other has (inl e) = other e
no-need opened s other has (inr lacks) = let bad : true ≡ false = sym has ∙ lacks in cc

-- a machine that a text of version 1 opened, and whose axes brake as hard as they speed up
pub fits-one : (v : TraceVersion) (s : Setup) → v ≡ trace_version One s → BrakeAlike s → IsTraceVersion One s v
unfolding trace_version
fits-one v s is alike = elim (cases_Bool (has_kinds One s.blocks)) [
  | inl has ↦
      let e : v ≡ One = is ∙ ap (λ b. if b then One else Three) has in
      record {
        one = (λ x. (refl, record { braking = λ y. alike; kinds = has }), λ x. e);
        three = (
          λ x. absurd (let bad : One ≡ Three = sym e ∙ x in cc),
          λ need. absurd (no-need One s (λ bad. cc) (sym (same-kinds s.blocks) ∙ has) need),
        );
      }
  | inr lacks ↦
      let e : v ≡ Three = is ∙ ap (λ b. if b then One else Three) lacks in
      record {
        one = (
          λ x. absurd (let bad : Three ≡ One = sym e ∙ x in cc),
          λ x. absurd (let bad : true ≡ false = sym x.1.kinds ∙ lacks in cc),
        );
        three = (λ x. inr (sym (same-kinds s.blocks) ∙ lacks), λ x. e);
      }
]

-- another machine that no text of version 3 opened
pub fits-two : (opened v : TraceVersion) (s : Setup) → v ≡ trace_version Two s → (opened ≡ One → BrakeAlike s → ⊥) →
    (opened ≡ Three → ⊥) → IsTraceVersion opened s v
unfolding trace_version
fits-two opened v s is not-one not-three = elim (cases_Bool (has_kinds Two s.blocks)) [
  | inl has ↦
      let e : v ≡ Two = is ∙ ap (λ b. if b then Two else Three) has in
      record {
        one = (
          λ x. absurd (let bad : Two ≡ One = sym e ∙ x in cc),
          λ x. absurd (not-one x.0 (x.1.braking refl)),
        );
        three = (
          λ x. absurd (let bad : Two ≡ Three = sym e ∙ x in cc),
          λ need. absurd (no-need opened s not-three has need),
        );
      }
  | inr lacks ↦
      let e : v ≡ Three = is ∙ ap (λ b. if b then Two else Three) lacks in
      record {
        one = (
          λ x. absurd (let bad : Three ≡ One = sym e ∙ x in cc),
          λ x. absurd (not-one x.0 (x.1.braking refl)),
        );
        three = (λ x. inr lacks, λ x. e);
      }
]

-- a machine that a text of version 3 opened
either-way : (b : Bool) → (if b then Three else Three) ≡ Three
either-way true = refl
either-way false = refl

pub fits-three : (v : TraceVersion) (s : Setup) → v ≡ trace_version Three s → IsTraceVersion Three s v
unfolding trace_version
fits-three v s is =
    let e : v ≡ Three = is ∙ either-way (has_kinds Three s.blocks) in
    record {
      one = (λ x. absurd (let bad : Three ≡ One = sym e ∙ x in cc), λ x. absurd (let bad = x.0 in cc));
      three = (λ x. inl refl, λ x. e);
    }
