-- The rows of cycles, and what the drives took, read from the records of a trace: each is the
-- fields after its kind. This project's profile.
use Rattle.std.specs.Prelude.{ℕ, ℤ, pos, neg_ℤ, ◌-◌, ◌^◌, Option, Some, None, Result, Ok, Err, List, [], ◌∷◌}
use Rattle.std.specs.Str.{bytes_eq}
use Rattle.plc_types.specs.declared.axis.AxisRow.{AxisRow}
use Rattle.plc_types.specs.declared.drive.DriveIn.{DriveIn}
use Rattle.plc_types.specs.declared.drive.DriveOut.{DriveOut}
use Rattle.plc_types.specs.declared.group.GroupRow.{GroupRow}
use Rattle.line_text.specs.Reading.{◌>>=◌}
use Rattle.line_text.specs.Rules.{broken_unless}
use Rattle.motion_history.specs.Setup.{Setup}
use Rattle.motion_history.specs.declared.refused.TraceVersion.{TraceVersion}
use Rattle.motion_history.specs.declared.refused.TraceVersion.TheVariants.{One}
use Rattle.trace_columns.specs.Columns.{axis_state_of, drive_state_of, flag_of, group_state_of, hex_of, number_of, unsigned_of, wide_number_of}
use Rattle.trace_text.specs.reading.Rules.{are_empty, unused, value}
use Rattle.trace_text.specs.Records.{axis_name, group_name}
use Rattle.trace_text.specs.declared.reading.row.Shown.{Shown}
use Rattle.trace_text.specs.reading.RowFields.{RowTexts}
use Rattle.trace_text.specs.reading.RuleNumbers.{no_value}
use Rattle.trace_text.specs.declared.drive_end.DriveEndRow.{DriveEndRow}

-- a number of 32 bits. IEC 61800-7-201, objects 6064h and 607Ah
abbrev pub count_of : List ℕ → Result ℤ ℕ
count_of text = value (number_of (neg_ℤ (pos (2 ^ 31))) (pos (2 ^ 31 - 1)) text)

-- a number of 8 bits. IEC 61800-7-201, object 6061h
abbrev pub mode_display_of : List ℕ → Result ℤ ℕ
mode_display_of text = value (number_of (neg_ℤ (pos 128)) (pos 127) text)

-- what a drive answered: its statusword, its actual position and its mode
unfoldable pub answer_of : List (List ℕ) → Result DriveIn ℕ
answer_of (statusword ∷ actual ∷ mode_display ∷ []) = do
  w ← value (hex_of statusword)
  a ← count_of actual
  m ← mode_display_of mode_display
  Ok (record { statusword = w; mode_display = m; actual = a })
answer_of _ = Err no_value

-- what an axis shows: its state, its error, whether it is driven, and its setpoint
unfoldable pub shown_of : List (List ℕ) → Result Shown ℕ
shown_of (state ∷ error ∷ driven ∷ setpoint ∷ []) = do
  t ← value (axis_state_of state)
  e ← value (unsigned_of 0 65535 error)
  d ← value (flag_of driven)
  p ← value (wide_number_of setpoint)
  Ok (record { state = t; error = e; driven = d; setpoint = p })
shown_of _ = Err no_value

-- what a drive was given: its controlword, mode 8 and its target
unfoldable pub given_of : List (List ℕ) → Result DriveOut ℕ
given_of (controlword ∷ target ∷ []) = do
  w ← value (hex_of controlword)
  t ← count_of target
  Ok (record { controlword = w; mode = pos 8; target = t })
given_of _ = Err no_value

-- the place that a drive reported; version 1 has none
unfoldable pub place_meaning : TraceVersion → List ℕ → Result (Option ℤ) ℕ
place_meaning One text = unused text None
place_meaning v text = do
  p ← value (wide_number_of text)
  Ok (Some p)

-- the row of these fields, with the place that its drive reported; every offset is 0
unfoldable pub row_by : TraceVersion → Setup → ℕ → RowTexts → Result (AxisRow × Option ℤ) ℕ
row_by v s n fields = do
  _ ← broken_unless (bytes_eq (axis_name s n) fields.name) no_value
  input ← answer_of fields.answer
  shown ← shown_of fields.shown
  output ← given_of fields.given
  reported ← place_meaning v fields.place
  Ok (
    record {
      input = input;
      state = shown.state;
      error = shown.error;
      driven = shown.driven;
      setpoint = shown.setpoint;
      offset = pos 0;
      output = output;
    },
    reported,
  )

-- the row of the axis of a number
unfoldable pub row_meaning : TraceVersion → Setup → ℕ → List (List ℕ) →
    Result (AxisRow × Option ℤ) ℕ
row_meaning v s n (axis ∷ statusword ∷ actual ∷ mode_display ∷ state ∷ error ∷ driven ∷
    setpoint ∷ controlword ∷ target ∷ place ∷ []) =
    row_by v s n (record {
      name = axis;
      answer = statusword ∷ actual ∷ mode_display ∷ [];
      shown = state ∷ error ∷ driven ∷ setpoint ∷ [];
      given = controlword ∷ target ∷ [];
      place = place;
    })
row_meaning v s n _ = Err no_value

-- the row of the group of a number
unfoldable pub grow_meaning : Setup → ℕ → List (List ℕ) → Result GroupRow ℕ
grow_meaning s n (group ∷ state ∷ error ∷ behind) = do
  _ ← broken_unless (bytes_eq (group_name s n) group) no_value
  t ← value (group_state_of state)
  e ← value (unsigned_of 0 65535 error)
  _ ← broken_unless (are_empty behind) no_value
  Ok (record { state = t; error = e })
grow_meaning s n _ = Err no_value

-- what the drive of the axis of a number took
unfoldable pub drive_meaning : Setup → ℕ → List (List ℕ) → Result DriveEndRow ℕ
drive_meaning s n (axis ∷ taken ∷ state ∷ actual ∷ behind) = do
  _ ← broken_unless (bytes_eq (axis_name s n) axis) no_value
  k ← value (unsigned_of 0 (2 ^ 32 - 1) taken)
  t ← value (drive_state_of state)
  a ← count_of actual
  _ ← broken_unless (are_empty behind) no_value
  Ok (record { taken = k; state = t; actual = a })
drive_meaning s n _ = Err no_value
