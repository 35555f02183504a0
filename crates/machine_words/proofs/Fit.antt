-- Inputs that are read fit their block.
-- for: inputs_are_fit
use Rattle.std.proofs.Common.{◌≡◌, ℕ, ◌<◌, ◌≤◌, ℤ, true, Option, Some, None, Ok, List, length, refl, subst, arith, inl, inr, lit≤}
use Rattle.std.specs.Prelude.{pos, codes}
use Rattle.std.proofs.lemmas.Bool.{cases_Bool}
use Rattle.plc_types.specs.declared.kind.BufferMode.TheVariants.{Aborting}
use Rattle.plc_types.specs.Inputs.{inputs_off, takes}
use Rattle.plc_types.specs.declared.inputs.Input.TheVariants.{Velocity, Acceleration, Deceleration, Jerk, Numerator, Denominator}
use Rattle.plc_types.specs.declared.inputs.Inputs.{Inputs}
use Rattle.line_text.specs.Rules.{broken_unless, in_range}
use Rattle.line_text.specs.Texts.{says}
use Rattle.motion_history.specs.Calls.{axes_of}
use Rattle.motion_history.specs.Setup.{Setup}
use Rattle.motion_history.specs.declared.config.BlockDef.{BlockDef}
use Rattle.machine_words.specs.Fit.{AreFit}
use Rattle.machine_words.specs.Inputs.{are_masters_there, inputs_by, inputs_of, inputs_on, is_off, mode_of, positions_of, value_or}
use Rattle.machine_words.specs.Keys.{TextsGiven, texts_given}
use Rattle.machine_words.specs.Names.{axis_at, axis_named}
use Rattle.machine_words.specs.Numbers.{number}
use Rattle.machine_words.specs.Positions.{no_positions}
use Rattle.machine_words.specs.Units.{IsUnits, acceleration_in, jerk_in, velocity_in}
use Rattle.machine_words.specs.RuleNumbers.{no_value, out_of_range, wrong_name}
use Rattle.machine_words.specs.declared.units.Units.{Units}
use Rattle.machine_words.proofs.Given.{AreGivenOf, ArePositions, given-of, left-out, no_positions-are, number-taken, positions-are, positions-left}
use Rattle.machine_words.proofs.Names.{axis-within}
use Rattle.machine_words.proofs.Smalls.{AreSmall, acceleration-small, jerk-small, number-small, velocity-small}
use Rattle.line_text.proofs.Results.{bind_ok, found, ok_is}

master-within : (s : Setup) (o : Option (List ℕ)) (n : ℕ) → 1 ≤ length s.axes → value_or 0 (axis_named wrong_name s) o ≡ Ok n → n < length s.axes
master-within s None n some h = subst (λ k. k < length s.axes) (ok_is (Ok 0) 0 n refl h) (omega arith)
master-within s (Some name) n some h = axis-within s name n (found (axis_at s name) wrong_name n h)

-- a table that is left out is 0
table-left : (o : Option (List ℕ)) (z : ℤ) (n : ℕ) → value_or (pos 0) number o ≡ Ok z → in_range 0 65535 out_of_range z ≡ Ok n → o ≡ None → n ≡ 0
unfolding in_range
table-left o z n h r none =
    let is : z ≡ pos 0 = left-out (pos 0) number o z h none in
    let e : Ok 0 ≡ Ok n = rw is at r in cc

inputs_of-fit : AreSmall → (units : Units) → IsUnits units → (s : Setup) (b : BlockDef) (g : TextsGiven) (i : Inputs) → 1 ≤ length s.axes → AreGivenOf b.kind g →
    inputs_of units s (axes_of s b) g ≡ Ok i → AreFit s b i
unfolding inputs_of
inputs_of-fit small units cycle s b g i some of h =
    let ps = bind_ok (value_or no_positions (positions_of units (axes_of s b)) g.position) _ i h in
    let v = bind_ok (value_or (pos 0) (velocity_in units) g.velocity) _ i ps.2 in
    let a = bind_ok (value_or (pos 0) (acceleration_in units) g.acceleration) _ i v.2 in
    let d = bind_ok (value_or (pos 0) (acceleration_in units) g.deceleration) _ i a.2 in
    let j = bind_ok (value_or (pos 0) (jerk_in units) g.jerk) _ i d.2 in
    let m = bind_ok (value_or Aborting mode_of g.mode) _ i j.2 in
    let master = bind_ok (value_or 0 (axis_named wrong_name s) g.master) _ i m.2 in
    let n = bind_ok (value_or (pos 1) number g.numerator) _ i master.2 in
    let e = bind_ok (value_or (pos 1) number g.denominator) _ i n.2 in
    let t = bind_ok (value_or (pos 0) number g.table) _ i e.2 in
    let table = bind_ok (in_range 0 65535 out_of_range t.0) _ i t.2 in
    let r : Inputs = record {
      execute = true;
      positions = ps.0;
      velocity = v.0;
      acceleration = a.0;
      deceleration = d.0;
      jerk = j.0;
      mode = m.0;
      master = master.0;
      numerator = n.0;
      denominator = e.0;
      table = table.0;
    } in
    let is : r ≡ i = ok_is (Ok r) r i refl table.2 in
    let positions : ArePositions (axes_of s b) ps.0 = positions-are small units (axes_of s b) g.position ps.0 ps.1 in
    let accelerates = acceleration-small small units cycle in
    subst (λ q. AreFit s b q) is (record {
      inputs = record {
        positions = λ k. record { left_out = λ none. positions-left units (axes_of s b) g.position ps.0 ps.1 (of.position none) k; size = positions.small k };
        few_positions = positions.few;
        velocity = number-taken (velocity_in units) (velocity-small small units cycle) (takes b.kind Velocity) (pos 0) g.velocity v.0 (lit≤ tt) of.velocity v.1;
        acceleration = number-taken (acceleration_in units) accelerates (takes b.kind Acceleration) (pos 0) g.acceleration a.0 (lit≤ tt) of.acceleration a.1;
        deceleration = number-taken (acceleration_in units) accelerates (takes b.kind Deceleration) (pos 0) g.deceleration d.0 (lit≤ tt) of.deceleration d.1;
        jerk = number-taken (jerk_in units) (jerk-small small units cycle) (takes b.kind Jerk) (pos 0) g.jerk j.0 (lit≤ tt) of.jerk j.1;
        mode = λ none. left-out Aborting mode_of g.mode m.0 m.1 (of.mode none);
        master = λ none. left-out 0 (axis_named wrong_name s) g.master master.0 master.1 (of.master none);
        numerator = number-taken number (number-small small) (takes b.kind Numerator) (pos 1) g.numerator n.0 (lit≤ tt) of.numerator n.1;
        denominator = number-taken number (number-small small) (takes b.kind Denominator) (pos 1) g.denominator e.0 (lit≤ tt) of.denominator e.1;
        table = λ none. table-left g.table t.0 table.0 t.1 table.1 (of.table none);
      };
      master = master-within s g.master master.0 some master.1;
    })

inputs_off-fit : (s : Setup) (b : BlockDef) → 1 ≤ length s.axes → AreFit s b inputs_off
inputs_off-fit s b some =
    let positions = no_positions-are (axes_of s b) in
    record {
      inputs = record {
        positions = λ k. record { left_out = λ none. (no_positions-are 0).few k (omega arith); size = positions.small k };
        few_positions = positions.few;
        velocity = record { left_out = λ none. refl; size = lit≤ tt };
        acceleration = record { left_out = λ none. refl; size = lit≤ tt };
        deceleration = record { left_out = λ none. refl; size = lit≤ tt };
        jerk = record { left_out = λ none. refl; size = lit≤ tt };
        mode = λ none. refl;
        master = λ none. refl;
        numerator = record { left_out = λ none. refl; size = lit≤ tt };
        denominator = record { left_out = λ none. refl; size = lit≤ tt };
        table = λ none. refl;
      };
      master = omega arith;
    }

inputs_on-fit : AreSmall → (units : Units) (s : Setup) (b : BlockDef) (state : List ℕ) (words : List (List ℕ)) (i : Inputs) → IsUnits units → 1 ≤ length s.axes →
    inputs_on units s b state words ≡ Ok i → AreFit s b i
unfolding inputs_on
inputs_on-fit small units s b state words i cycle some h =
    let m = bind_ok (broken_unless (are_masters_there s b.kind words) wrong_name) _ i h in
    let on = bind_ok (broken_unless (says state (codes "on")) no_value) _ i m.2 in
    let given = bind_ok _ (λ g. inputs_of units s (axes_of s b) g) i on.2 in
    inputs_of-fit small units cycle s b given.0 i some (given-of b.kind words given.0 (found (texts_given b.kind words) no_value given.0 given.1)) given.2

-- the inputs of a call
pub inputs_by-fit : AreSmall → (units : Units) (s : Setup) (b : BlockDef) (state : List ℕ) (words : List (List ℕ)) (i : Inputs) → IsUnits units → 1 ≤ length s.axes →
    inputs_by units s b state words ≡ Ok i → AreFit s b i
inputs_by-fit small units s b state words i cycle some h =
    elim (cases_Bool (is_off state)) [
      | inl off ↦ let e : Ok inputs_off ≡ Ok i = rw off at h in subst (λ q. AreFit s b q) (ok_is (Ok inputs_off) inputs_off i refl e) (inputs_off-fit s b some)
      | inr on ↦ let e : inputs_on units s b state words ≡ Ok i = rw on at h in inputs_on-fit small units s b state words i cycle some e
    ]
