-- What a comparison of two values has reported.
-- for: replay_from
use Rattle.std.proofs.Common.{rules, ◌≡◌, true, refl, int_eq}
use Rattle.std.specs.Prelude.{◌==◌, ◌&&◌}
use Rattle.std.specs.Cmp.{booleans_Decides}
use Rattle.std.proofs.lemmas.Bool.Decides.{Decides-eqb, Decides-int_eq}
use Rattle.std.proofs.lemmas.Bool.{and_parts}
use denote.Enum.Bare.{same_true, sameb, true_same}
use mathlib.Core.Bool.{beq}
use Rattle.plc_types.specs.declared.axis.AxisRow.{AxisRow}
use Rattle.plc_types.specs.contracts.axis_state.AxisState as axis_state
use Rattle.plc_types.specs.declared.outputs.Outputs.{Outputs}

pub same-outputs : (a b : Outputs) → (beq a.busy b.busy && (beq a.active b.active && (beq a.done b.done && (beq a.aborted b.aborted && (beq a.error b.error && ((a.error_id == b.error_id) && beq a.reached b.reached)))))) ≡ true → a ≡ b
same-outputs a b h =
    let p = and_parts _ _ h in
    let q = and_parts _ _ p.1 in
    let r = and_parts _ _ q.1 in
    let s = and_parts _ _ r.1 in
    let t = and_parts _ _ s.1 in
    let u = and_parts _ _ t.1 in
    let e0 : a.busy ≡ b.busy = (booleans_Decides a.busy b.busy).0 p.0 in
    let e1 : a.active ≡ b.active = (booleans_Decides a.active b.active).0 q.0 in
    let e2 : a.done ≡ b.done = (booleans_Decides a.done b.done).0 r.0 in
    let e3 : a.aborted ≡ b.aborted = (booleans_Decides a.aborted b.aborted).0 s.0 in
    let e4 : a.error ≡ b.error = (booleans_Decides a.error b.error).0 t.0 in
    let e5 : a.error_id ≡ b.error_id = (Decides-eqb a.error_id b.error_id).0 u.0 in
    let e6 : a.reached ≡ b.reached = (booleans_Decides a.reached b.reached).0 u.1 in
    λ i. record { busy = e0 i; active = e1 i; done = e2 i; aborted = e3 i; error = e4 i; error_id = e5 i; reached = e6 i }

pub same-row : (a b : AxisRow) → ((int_eq a.input.actual b.input.actual && ((a.input.statusword == b.input.statusword) && int_eq a.input.mode_display b.input.mode_display)) && (sameb axis_state.the_type a.state b.state && ((a.error == b.error) && (beq a.driven b.driven && (int_eq a.setpoint b.setpoint && (int_eq a.offset b.offset && (int_eq a.output.target b.output.target && ((a.output.controlword == b.output.controlword) && int_eq a.output.mode b.output.mode)))))))) ≡ true → a ≡ b
same-row a b h =
    let p = and_parts _ _ h in
    let p1 = and_parts _ _ p.0 in
    let p2 = and_parts _ _ p1.1 in
    let q = and_parts _ _ p.1 in
    let r = and_parts _ _ q.1 in
    let s = and_parts _ _ r.1 in
    let t = and_parts _ _ s.1 in
    let u = and_parts _ _ t.1 in
    let v = and_parts _ _ u.1 in
    let w = and_parts _ _ v.1 in
    let e0 : a.input.statusword ≡ b.input.statusword = (Decides-eqb a.input.statusword b.input.statusword).0 p2.0 in
    let e1 : a.input.mode_display ≡ b.input.mode_display = (Decides-int_eq a.input.mode_display b.input.mode_display).0 p2.1 in
    let e2 : a.input.actual ≡ b.input.actual = (Decides-int_eq a.input.actual b.input.actual).0 p1.0 in
    let e3 : a.state ≡ b.state = same_true axis_state.the_type (search rules) _ _ q.0 in
    let e4 : a.error ≡ b.error = (Decides-eqb a.error b.error).0 r.0 in
    let e5 : a.driven ≡ b.driven = (booleans_Decides a.driven b.driven).0 s.0 in
    let e6 : a.setpoint ≡ b.setpoint = (Decides-int_eq a.setpoint b.setpoint).0 t.0 in
    let e7 : a.offset ≡ b.offset = (Decides-int_eq a.offset b.offset).0 u.0 in
    let e8 : a.output.controlword ≡ b.output.controlword = (Decides-eqb a.output.controlword b.output.controlword).0 w.0 in
    let e9 : a.output.mode ≡ b.output.mode = (Decides-int_eq a.output.mode b.output.mode).0 w.1 in
    let e10 : a.output.target ≡ b.output.target = (Decides-int_eq a.output.target b.output.target).0 v.0 in
    λ i. record {
      input = record { statusword = e0 i; mode_display = e1 i; actual = e2 i };
      state = e3 i;
      error = e4 i;
      driven = e5 i;
      setpoint = e6 i;
      offset = e7 i;
      output = record { controlword = e8 i; mode = e9 i; target = e10 i };
    }

-- a reply is itself
pub alike-outputs : (a : Outputs) → (beq a.busy a.busy && (beq a.active a.active && (beq a.done a.done && (beq a.aborted a.aborted && (beq a.error a.error && ((a.error_id == a.error_id) && beq a.reached a.reached)))))) ≡ true
alike-outputs a =
    let e0 = (booleans_Decides a.busy a.busy).1 refl in
    let e1 = (booleans_Decides a.active a.active).1 refl in
    let e2 = (booleans_Decides a.done a.done).1 refl in
    let e3 = (booleans_Decides a.aborted a.aborted).1 refl in
    let e4 = (booleans_Decides a.error a.error).1 refl in
    let e5 = (Decides-eqb a.error_id a.error_id).1 refl in
    let e6 = (booleans_Decides a.reached a.reached).1 refl in
    rw (e0, e1, e2, e3, e4, e5, e6) refl

-- a row is itself
pub alike-row : (a : AxisRow) → ((int_eq a.input.actual a.input.actual && ((a.input.statusword == a.input.statusword) && int_eq a.input.mode_display a.input.mode_display)) && (sameb axis_state.the_type a.state a.state && ((a.error == a.error) && (beq a.driven a.driven && (int_eq a.setpoint a.setpoint && (int_eq a.offset a.offset && (int_eq a.output.target a.output.target && ((a.output.controlword == a.output.controlword) && int_eq a.output.mode a.output.mode)))))))) ≡ true
alike-row a =
    let e0 = (Decides-int_eq a.input.actual a.input.actual).1 refl in
    let e1 = (Decides-eqb a.input.statusword a.input.statusword).1 refl in
    let e2 = (Decides-int_eq a.input.mode_display a.input.mode_display).1 refl in
    let e3 : sameb axis_state.the_type a.state a.state ≡ true = true_same axis_state.the_type a.state a.state refl in
    let e4 = (Decides-eqb a.error a.error).1 refl in
    let e5 = (booleans_Decides a.driven a.driven).1 refl in
    let e6 = (Decides-int_eq a.setpoint a.setpoint).1 refl in
    let e7 = (Decides-int_eq a.offset a.offset).1 refl in
    let e8 = (Decides-int_eq a.output.target a.output.target).1 refl in
    let e9 = (Decides-eqb a.output.controlword a.output.controlword).1 refl in
    let e10 = (Decides-int_eq a.output.mode a.output.mode).1 refl in
    rw (e0, e1, e2, e3, e4, e5, e6, e7, e8, e9, e10) refl
