-- What is written of a value is read as this value.
-- for: columns_are_read_back
use Rattle.std.specs.Prelude.{◌≡◌, refl, ℕ, zero, suc, ◌/◌, ◌%◌, ◌^◌, ◌<◌, ◌≤◌, ◌==◌, ℤ, pos, negsuc, neg_ℤ, int_le, ◌≤ℤ◌, Bool, true, false, ◌&&◌, Some, decimal, List, slice_index_or}
use Rattle.std.specs.Fmt.{signed_decimal}
use Rattle.std.specs.Str.Parse.{digits_value, signed_digits_value}
use Rattle.std.proofs.Common.{◌∙◌, ap, arith, w64, FitsSigned}
use Rattle.std.proofs.lemmas.Bool.{ne_eqb, true_from_ne_false}
use Rattle.std.proofs.lemmas.Fmt.{decimal_digit, decimal_is_IsNumeral, first_decimal}
use Rattle.std.proofs.lemmas.Int.{ints}
use Rattle.plc_types.specs.declared.axis_state.AxisState.{AxisState}
use Rattle.plc_types.specs.declared.axis_state.AxisState.TheVariants as axis
use Rattle.plc_types.specs.declared.drive.DriveState.{DriveState}
use Rattle.plc_types.specs.declared.drive.DriveState.TheVariants as drive
use Rattle.plc_types.specs.declared.outputs.Outputs.{Outputs}
use Rattle.plc_types.specs.declared.group.GroupState.{GroupState}
use Rattle.plc_types.specs.declared.group.GroupState.TheVariants as group
use Rattle.trace_columns.specs.Columns.{axis_state_of, drive_state_of, flag_of, group_state_of, hex_digit_of, hex_of, number_of, outputs_of, unsigned_of, wide_number_of}
use Rattle.trace_columns.specs.Fields.{axis_state_text, drive_state_text, flag_text, group_state_text, hex_digit, hex_text, outputs_text}
use Rattle.trace_columns.proofs.NumberLaws.{both-hold, wide-whole}

pub axes-back : (s : AxisState) → axis_state_of (axis_state_text s) ≡ Some s
unfolding axis_state_of axis_state_text
axes-back axis.Disabled = refl
axes-back _ = refl

pub groups-back : (s : GroupState) → group_state_of (group_state_text s) ≡ Some s
unfolding group_state_of group_state_text
groups-back group.GroupDisabled = refl
groups-back _ = refl

pub drives-back : (s : DriveState) → drive_state_of (drive_state_text s) ≡ Some s
unfolding drive_state_of drive_state_text
drives-back drive.NotReady = refl
drives-back _ = refl

pub flags-back : (b : Bool) → flag_of (flag_text b) ≡ Some b
unfolding flag_of flag_text
flags-back true = refl
flags-back false = refl

letters-back : (busy active done aborted error reached : Bool) (id : ℕ) →
    let o : Outputs = record { busy = busy; active = active; done = done; aborted = aborted; error = error; error_id = id; reached = reached } in
    outputs_of (outputs_text o) id ≡ Some o
unfolding outputs_of outputs_text
letters-back true true true true true true id = refl
letters-back true true true true true false id = refl
letters-back true true true true false true id = refl
letters-back true true true true false false id = refl
letters-back true true true false true true id = refl
letters-back true true true false true false id = refl
letters-back true true true false false true id = refl
letters-back true true true false false false id = refl
letters-back true true false true true true id = refl
letters-back true true false true true false id = refl
letters-back true true false true false true id = refl
letters-back true true false true false false id = refl
letters-back true true false false true true id = refl
letters-back true true false false true false id = refl
letters-back true true false false false true id = refl
letters-back true true false false false false id = refl
letters-back true false true true true true id = refl
letters-back true false true true true false id = refl
letters-back true false true true false true id = refl
letters-back true false true true false false id = refl
letters-back true false true false true true id = refl
letters-back true false true false true false id = refl
letters-back true false true false false true id = refl
letters-back true false true false false false id = refl
letters-back true false false true true true id = refl
letters-back true false false true true false id = refl
letters-back true false false true false true id = refl
letters-back true false false true false false id = refl
letters-back true false false false true true id = refl
letters-back true false false false true false id = refl
letters-back true false false false false true id = refl
letters-back true false false false false false id = refl
letters-back false true true true true true id = refl
letters-back false true true true true false id = refl
letters-back false true true true false true id = refl
letters-back false true true true false false id = refl
letters-back false true true false true true id = refl
letters-back false true true false true false id = refl
letters-back false true true false false true id = refl
letters-back false true true false false false id = refl
letters-back false true false true true true id = refl
letters-back false true false true true false id = refl
letters-back false true false true false true id = refl
letters-back false true false true false false id = refl
letters-back false true false false true true id = refl
letters-back false true false false true false id = refl
letters-back false true false false false true id = refl
letters-back false true false false false false id = refl
letters-back false false true true true true id = refl
letters-back false false true true true false id = refl
letters-back false false true true false true id = refl
letters-back false false true true false false id = refl
letters-back false false true false true true id = refl
letters-back false false true false true false id = refl
letters-back false false true false false true id = refl
letters-back false false true false false false id = refl
letters-back false false false true true true id = refl
letters-back false false false true true false id = refl
letters-back false false false true false true id = refl
letters-back false false false true false false id = refl
letters-back false false false false true true id = refl
letters-back false false false false true false id = refl
letters-back false false false false false true id = refl
letters-back false false false false false false id = refl

pub outputs-back : (o : Outputs) → outputs_of (outputs_text o) o.error_id ≡ Some o
outputs-back o = letters-back o.busy o.active o.done o.aborted o.error o.reached o.error_id

digits-back : (n : ℕ) → n < 16 → hex_digit_of (hex_digit n) ≡ Some n
unfolding hex_digit_of
digits-back zero l = refl
digits-back (suc zero) l = refl
digits-back (suc (suc zero)) l = refl
digits-back (suc (suc (suc zero))) l = refl
digits-back (suc (suc (suc (suc zero)))) l = refl
digits-back (suc (suc (suc (suc (suc zero))))) l = refl
digits-back (suc (suc (suc (suc (suc (suc zero)))))) l = refl
digits-back (suc (suc (suc (suc (suc (suc (suc zero))))))) l = refl
digits-back (suc (suc (suc (suc (suc (suc (suc (suc zero)))))))) l = refl
digits-back (suc (suc (suc (suc (suc (suc (suc (suc (suc zero))))))))) l = refl
digits-back (suc (suc (suc (suc (suc (suc (suc (suc (suc (suc zero)))))))))) l = refl
digits-back (suc (suc (suc (suc (suc (suc (suc (suc (suc (suc (suc zero))))))))))) l = refl
digits-back (suc (suc (suc (suc (suc (suc (suc (suc (suc (suc (suc (suc zero)))))))))))) l = refl
digits-back (suc (suc (suc (suc (suc (suc (suc (suc (suc (suc (suc (suc (suc zero))))))))))))) l = refl
digits-back (suc (suc (suc (suc (suc (suc (suc (suc (suc (suc (suc (suc (suc (suc zero)))))))))))))) l = refl
digits-back (suc (suc (suc (suc (suc (suc (suc (suc (suc (suc (suc (suc (suc (suc (suc zero))))))))))))))) l = refl
digits-back (suc (suc (suc (suc (suc (suc (suc (suc (suc (suc (suc (suc (suc (suc (suc (suc n)))))))))))))))) l = absurd (omega arith)

pub words-back : (w : ℕ) → w < 65536 → hex_of (hex_text w) ≡ Some w
unfolding hex_of hex_text
words-back w l =
    rw (digits-back (w / 4096) (omega arith), digits-back (w / 256 % 16) (omega arith), digits-back (w / 16 % 16) (omega arith), digits-back (w % 16) (omega arith))
    (ap Some (omega arith))

-- digits without a sign in front
plain-value : (bs : List ℕ) → 48 < slice_index_or bs 0 0 → signed_digits_value 10 bs ≡ pos (digits_value 10 bs)
plain-value bs l =
    let minus : (slice_index_or bs 0 0 == 45) ≡ false = ne_eqb (slice_index_or bs 0 0) 45 (λ e. omega (arith, e, l)) in
    let plus : (slice_index_or bs 0 0 == 43) ≡ false = ne_eqb (slice_index_or bs 0 0) 43 (λ e. omega (arith, e, l)) in
    rw (minus, plus) refl

value-back : (z : ℤ) → FitsSigned w64 z → signed_digits_value 10 (signed_decimal z) ≡ z
value-back (pos zero) f = rw (decimal_digit 0 (omega arith)) refl
value-back (pos (suc n)) f =
    let small : suc n < 2 ^ 64 = omega (arith, ints) in
    plain-value (decimal (suc n)) (first_decimal (suc n) (omega arith) small) ∙ ap pos ((decimal_is_IsNumeral (suc n) small).1)
value-back (negsuc n) f =
    let small : suc n < 2 ^ 64 = omega (arith, ints) in
    ap (λ k. neg_ℤ (pos k)) ((decimal_is_IsNumeral (suc n) small).1)

pub wide-back : (z : ℤ) → FitsSigned w64 z → wide_number_of (signed_decimal z) ≡ Some z
wide-back z f = wide-whole (signed_decimal z) z (record { value = value-back z f; wide = f; spelled = refl })

pub numbers-back : (least most z : ℤ) → FitsSigned w64 z → least ≤ℤ z → z ≤ℤ most → number_of least most (signed_decimal z) ≡ Some z
unfolding number_of
numbers-back least most z f low high =
    let within : (int_le least z && int_le z most) ≡ true =
    both-hold _ _ (true_from_ne_false (int_le least z) (λ e. omega (arith, ints, e, low))) (true_from_ne_false (int_le z most) (λ e. omega (arith, ints, e, high))) in
    rw (wide-back z f, within) refl

pub unsigned-back : (least most n : ℕ) → n < 2 ^ 63 → least ≤ n → n ≤ most → unsigned_of least most (decimal n) ≡ Some n
unfolding unsigned_of
unsigned-back least most n l low high =
    rw (numbers-back (pos least) (pos most) (pos n) (omega (arith, ints, l)) (omega (arith, ints, low)) (omega (arith, ints, high))) refl
