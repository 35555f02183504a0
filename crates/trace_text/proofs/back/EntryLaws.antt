-- The rows of cycles and what the drives took, read from what was written of them.
-- for: traces_are_read_back, rows_are_read_back
use Rattle.std.specs.Prelude.{◌≡◌, refl, ℕ, ◌-◌, ◌^◌, ◌≤◌, pos, neg_ℤ, Some, Ok, [], ◌∷◌, decimal, drop, slice_get}
use Rattle.std.specs.Fmt.{signed_decimal}
use Rattle.std.proofs.Common.{sym, arith}
use Rattle.std.proofs.lemmas.Int.{ints}
use Rattle.plc_types.specs.declared.axis.AxisRow.{AxisRow}
use Rattle.plc_types.specs.declared.group.GroupRow.{GroupRow}
use Rattle.motion_history.specs.Setup.{Setup}
use Rattle.motion_history.specs.declared.refused.TraceVersion.{TraceVersion}
use Rattle.motion_history.specs.declared.refused.TraceVersion.TheVariants.{One, Two, Three}
use Rattle.trace_columns.specs.Fields.{axis_state_text, flag_text, hex_text}
use Rattle.plc_types.specs.declared.axis.AxisDef.{AxisDef}
use Rattle.trace_columns.specs.ReadBack.{AreReadBack}
use Rattle.trace_text.specs.Records.{axis_name, cycle_fields, drive_fields, group_name, grow_fields, padded, reported_place, reported_text, row_fields}
use Rattle.trace_text.specs.RowRanges.{IsRow, IsGroupRow, IsDriveEnd, IsReported, found_row, found_place}
use Rattle.trace_text.specs.reading.Rows.{answer_of, drive_meaning, given_of, grow_meaning, place_meaning, row_by, row_meaning, shown_of}
use Rattle.trace_text.specs.reading.Events.{cycle_meaning}
use Rattle.trace_text.specs.reading.Rules.{are_empty}
use Rattle.trace_text.specs.declared.drive_end.DriveEndRow.{DriveEndRow}
use Rattle.line_text.proofs.Texts.{bytes-same}

answer-back : AreReadBack → (r : AxisRow) → IsRow r →
    answer_of (hex_text r.input.statusword ∷ signed_decimal r.input.actual ∷ signed_decimal r.input.mode_display ∷ []) ≡ Ok r.input
unfolding answer_of
answer-back back r is =
    rw (
      back.words r.input.statusword is.statusword,
      back.numbers (neg_ℤ (pos (2 ^ 31))) (pos (2 ^ 31 - 1)) r.input.actual (let l = is.actual_least in let h = is.actual_most in omega (arith, ints, l, h)) is.actual_least is.actual_most,
      back.numbers (neg_ℤ (pos 128)) (pos 127) r.input.mode_display (let l = is.mode_least in let h = is.mode_most in omega (arith, ints, l, h)) is.mode_least is.mode_most,
    ) refl

given-back : AreReadBack → (r : AxisRow) → IsRow r →
    given_of (hex_text r.output.controlword ∷ signed_decimal r.output.target ∷ []) ≡ Ok r.output
unfolding given_of
given-back back r is =
    rw (
      back.words r.output.controlword is.controlword,
      back.numbers (neg_ℤ (pos (2 ^ 31))) (pos (2 ^ 31 - 1)) r.output.target (let l = is.target_least in let h = is.target_most in omega (arith, ints, l, h)) is.target_least is.target_most,
    )
    (λ i. Ok (record { controlword = r.output.controlword; mode = sym is.mode i; target = r.output.target }))

shown-back : AreReadBack → (r : AxisRow) → IsRow r →
    shown_of (axis_state_text r.state ∷ decimal r.error ∷ flag_text r.driven ∷ signed_decimal r.setpoint ∷ []) ≡
    Ok (record { state = r.state; error = r.error; driven = r.driven; setpoint = r.setpoint })
unfolding shown_of
shown-back back r is =
    rw (back.axes r.state, back.unsigned 0 65535 r.error (let h = is.error in omega (arith, h)) (omega arith) is.error, back.flags r.driven, back.wide r.setpoint is.setpoint) refl

place-back : AreReadBack → (v : TraceVersion) (s : Setup) (n : ℕ) (d : AxisDef) (r : AxisRow) → slice_get s.axes n ≡ Some d → IsReported d r →
    place_meaning v (reported_text v s n r) ≡ Ok (found_place v d r)
unfolding place_meaning reported_text
place-back back One s n d r there is = refl
place-back back Two s n d r there is = rw (there, back.wide (reported_place d r) is) refl
place-back back Three s n d r there is = rw (there, back.wide (reported_place d r) is) refl

-- a row of an axis
pub row-back : AreReadBack → (v : TraceVersion) (s : Setup) (n : ℕ) (d : AxisDef) (r : AxisRow) → slice_get s.axes n ≡ Some d → IsRow r → IsReported d r →
    row_meaning v s n (drop 1 (padded (row_fields v s n r))) ≡ Ok (found_row r, found_place v d r)
unfolding row_meaning row_by
row-back back v s n d r there is reported =
    rw (bytes-same (axis_name s n), answer-back back r is, shown-back back r is, given-back back r is, place-back back v s n d r there reported) refl

-- a row of a group
pub grow-back : AreReadBack → (s : Setup) (n : ℕ) (r : GroupRow) → IsGroupRow r →
    grow_meaning s n (drop 1 (padded (grow_fields s n r))) ≡ Ok r
unfolding grow_meaning are_empty
grow-back back s n r is =
    rw (bytes-same (group_name s n), back.groups r.state, back.unsigned 0 65535 r.error (let h = is.error in omega (arith, h)) (omega arith) is.error) refl

-- what a drive took
pub drive-back : AreReadBack → (s : Setup) (n : ℕ) (d : DriveEndRow) → IsDriveEnd d →
    drive_meaning s n (drop 1 (padded (drive_fields s n d))) ≡ Ok d
unfolding drive_meaning are_empty
drive-back back s n d is =
    rw (
      bytes-same (axis_name s n),
      back.unsigned 0 (2 ^ 32 - 1) d.taken (let h = is.taken in omega (arith, h)) (omega arith) is.taken,
      back.drives d.state,
      back.numbers (neg_ℤ (pos (2 ^ 31))) (pos (2 ^ 31 - 1)) d.actual (let l = is.least in let h = is.most in omega (arith, ints, l, h)) is.least is.most,
    ) refl

-- the number of a cycle
pub cycle-back : AreReadBack → (n : ℕ) → 1 ≤ n → n ≤ 2 ^ 32 - 1 → cycle_meaning (drop 1 (padded (cycle_fields n))) ≡ Ok n
unfolding cycle_meaning are_empty
cycle-back back n low high = rw (back.unsigned 1 (2 ^ 32 - 1) n (omega (arith, high)) low high) refl
