-- The rows that are read, and what the drives took, are in the ranges of their columns.
-- for: read_trace, read_within_room
use Rattle.std.proofs.Common.{◌≡◌, ℕ, ◌-◌, ◌^◌, ◌<◌, ◌≤◌, ◌≤ℤ◌, ℤ, Option, Some, None, Ok, List, [], ◌∷◌, length, refl, subst, arith, FitsSigned, w64}
use Rattle.std.specs.Prelude.{pos, neg_ℤ}
use Rattle.std.specs.List.{AllByRecursion}
use Rattle.std.specs.Option.{option_to_list}
use Rattle.std.specs.Str.{bytes_eq}
use Rattle.plc_types.specs.Counts.{IsCount}
use Rattle.plc_types.specs.declared.axis.AxisRow.{AxisRow}
use Rattle.plc_types.specs.declared.drive.DriveIn.{DriveIn}
use Rattle.plc_types.specs.declared.drive.DriveOut.{DriveOut}
use Rattle.plc_types.specs.declared.group.GroupRow.{GroupRow}
use Rattle.line_text.specs.Rules.{broken_unless}
use Rattle.motion_history.specs.Setup.{Setup}
use Rattle.motion_history.specs.declared.refused.TraceVersion.{TraceVersion}
use Rattle.motion_history.specs.declared.refused.TraceVersion.TheVariants.{One, Two, Three}
use Rattle.trace_columns.specs.Columns.{axis_state_of, drive_state_of, flag_of, group_state_of, hex_of, number_of, unsigned_of, wide_number_of}
use Rattle.trace_text.specs.reading.Events.{cycle_meaning}
use Rattle.trace_text.specs.Records.{axis_name, group_name}
use Rattle.trace_text.specs.reading.RowFields.{RowTexts}
use Rattle.trace_text.specs.RowRanges.{IsDriveEnd, IsGroupRow}
use Rattle.trace_text.specs.reading.Rows.{answer_of, count_of, drive_meaning, given_of, grow_meaning, mode_display_of, place_meaning, row_by, row_meaning, shown_of}
use Rattle.trace_text.specs.reading.Rules.{are_empty, is_empty, value}
use Rattle.trace_text.specs.TraceKept.{IsRowRead, places_with}
use Rattle.trace_text.specs.declared.reading.row.Shown.{Shown}
use Rattle.trace_text.specs.reading.RuleNumbers.{no_value}
use Rattle.trace_text.specs.declared.drive_end.DriveEndRow.{DriveEndRow}
use Rattle.line_text.proofs.Results.{bind_ok, found, ok_is}
use Rattle.trace_text.proofs.read.ColumnRanges.{hex-range, number-range, unsigned-range, wide-range}

-- a position of a drive
count-read : (text : List ℕ) (z : ℤ) → count_of text ≡ Ok z → IsCount z
count-read text z h =
    let r = number-range (neg_ℤ (pos (2 ^ 31))) (pos (2 ^ 31 - 1)) text z (found (number_of (neg_ℤ (pos (2 ^ 31))) (pos (2 ^ 31 - 1)) text) no_value z h) in
    record { least = r.0; most = r.1 }

mode-read : (text : List ℕ) (z : ℤ) → mode_display_of text ≡ Ok z → (neg_ℤ (pos 128) ≤ℤ z) × (z ≤ℤ pos 127)
mode-read text z h = number-range (neg_ℤ (pos 128)) (pos 127) text z (found (number_of (neg_ℤ (pos 128)) (pos 127) text) no_value z h)

-- ---- rows of axes

record IsAnswer (i : DriveIn) : Type 0 where
  statusword : i.statusword < 65536
  actual : IsCount i.actual
  mode_least : neg_ℤ (pos 128) ≤ℤ i.mode_display
  mode_most : i.mode_display ≤ℤ pos 127

answer-read : (fields : List (List ℕ)) (i : DriveIn) → answer_of fields ≡ Ok i → IsAnswer i
unfolding answer_of
answer-read (statusword ∷ actual ∷ mode_display ∷ []) i h =
    let w = bind_ok (value (hex_of statusword)) _ i h in
    let a = bind_ok (count_of actual) _ i w.2 in
    let m = bind_ok (mode_display_of mode_display) _ i a.2 in
    let x : DriveIn = record { statusword = w.0; mode_display = m.0; actual = a.0 } in
    let mode = mode-read mode_display m.0 m.1 in
    subst IsAnswer (ok_is (Ok x) x i refl m.2) (record {
      statusword = hex-range statusword w.0 (found (hex_of statusword) no_value w.0 w.1);
      actual = count-read actual a.0 a.1;
      mode_least = mode.0;
      mode_most = mode.1;
    })
answer-read _ i h = absurd (cc h)

record IsShown (x : Shown) : Type 0 where
  error : x.error ≤ 65535
  setpoint : FitsSigned w64 x.setpoint

shown-read : (fields : List (List ℕ)) (x : Shown) → shown_of fields ≡ Ok x → IsShown x
unfolding shown_of
shown-read (state ∷ error ∷ driven ∷ setpoint ∷ []) x h =
    let t = bind_ok (value (axis_state_of state)) _ x h in
    let e = bind_ok (value (unsigned_of 0 65535 error)) _ x t.2 in
    let d = bind_ok (value (flag_of driven)) _ x e.2 in
    let p = bind_ok (value (wide_number_of setpoint)) _ x d.2 in
    let y : Shown = record { state = t.0; error = e.0; driven = d.0; setpoint = p.0 } in
    subst IsShown (ok_is (Ok y) y x refl p.2) (record {
      error = (unsigned-range 0 65535 error e.0 (found (unsigned_of 0 65535 error) no_value e.0 e.1)).1;
      setpoint = wide-range setpoint p.0 (found (wide_number_of setpoint) no_value p.0 p.1);
    })
shown-read _ x h = absurd (cc h)

record IsGiven (o : DriveOut) : Type 0 where
  controlword : o.controlword < 65536
  mode : o.mode ≡ pos 8
  target : IsCount o.target

given-read : (fields : List (List ℕ)) (o : DriveOut) → given_of fields ≡ Ok o → IsGiven o
unfolding given_of
given-read (controlword ∷ target ∷ []) o h =
    let w = bind_ok (value (hex_of controlword)) _ o h in
    let t = bind_ok (count_of target) _ o w.2 in
    let x : DriveOut = record { controlword = w.0; mode = pos 8; target = t.0 } in
    subst IsGiven (ok_is (Ok x) x o refl t.2) (record {
      controlword = hex-range controlword w.0 (found (hex_of controlword) no_value w.0 w.1);
      mode = refl;
      target = count-read target t.0 t.1;
    })
given-read _ o h = absurd (cc h)

-- the places that stand with a row: as many as in the version, of 64 bits
pub record ArePlaces (v : TraceVersion) (places : List ℤ) : Type 0 where
  pub count : length places ≡ places_with v 1
  pub wide : AllByRecursion (FitsSigned w64) places

place-read : (v : TraceVersion) (text : List ℕ) (p : Option ℤ) → place_meaning v text ≡ Ok p → ArePlaces v (option_to_list p)
unfolding place_meaning
place-read One text p h =
    let e = bind_ok (broken_unless (is_empty text) no_value) (λ u. Ok None) p h in
    subst (λ q. ArePlaces One (option_to_list q)) (ok_is (Ok None) None p refl e.2) (record { count = refl; wide = tt })
place-read Two text p h =
    let z = bind_ok (value (wide_number_of text)) (λ x. Ok (Some x)) p h in
    let wide = wide-range text z.0 (found (wide_number_of text) no_value z.0 z.1) in
    subst (λ q. ArePlaces Two (option_to_list q)) (ok_is (Ok (Some z.0)) (Some z.0) p refl z.2) (record { count = refl; wide = (wide, tt) })
place-read Three text p h =
    let z = bind_ok (value (wide_number_of text)) (λ x. Ok (Some x)) p h in
    let wide = wide-range text z.0 (found (wide_number_of text) no_value z.0 z.1) in
    subst (λ q. ArePlaces Three (option_to_list q)) (ok_is (Ok (Some z.0)) (Some z.0) p refl z.2) (record { count = refl; wide = (wide, tt) })

-- a row that is read, with the places that stand with it
pub record IsRead (v : TraceVersion) (r : AxisRow × Option ℤ) : Type 0 where
  pub row : IsRowRead r.0
  pub places : ArePlaces v (option_to_list r.1)

row-by-read : (v : TraceVersion) (s : Setup) (n : ℕ) (fields : RowTexts) (r : AxisRow × Option ℤ) → row_by v s n fields ≡ Ok r → IsRead v r
unfolding row_by
row-by-read v s n fields r h =
    let named = bind_ok (broken_unless (bytes_eq (axis_name s n) fields.name) no_value) _ r h in
    let input = bind_ok (answer_of fields.answer) _ r named.2 in
    let shown = bind_ok (shown_of fields.shown) _ r input.2 in
    let output = bind_ok (given_of fields.given) _ r shown.2 in
    let place = bind_ok (place_meaning v fields.place) _ r output.2 in
    let x : AxisRow × Option ℤ = (
      record {
        input = input.0;
        state = shown.0.state;
        error = shown.0.error;
        driven = shown.0.driven;
        setpoint = shown.0.setpoint;
        offset = pos 0;
        output = output.0;
      },
      place.0,
    ) in
    let a = answer-read fields.answer input.0 input.1 in
    let b = shown-read fields.shown shown.0 shown.1 in
    let g = given-read fields.given output.0 output.1 in
    subst (IsRead v) (ok_is (Ok x) x r refl place.2) (record {
      row = record {
        row = record {
          statusword = a.statusword;
          actual_least = a.actual.least;
          actual_most = a.actual.most;
          mode_least = a.mode_least;
          mode_most = a.mode_most;
          error = b.error;
          setpoint = b.setpoint;
          controlword = g.controlword;
          mode = g.mode;
          target_least = g.target.least;
          target_most = g.target.most;
        };
        offset = refl;
      };
      places = place-read v fields.place place.0 place.1;
    })

pub row-read : (v : TraceVersion) (s : Setup) (n : ℕ) (fields : List (List ℕ)) (r : AxisRow × Option ℤ) → row_meaning v s n fields ≡ Ok r → IsRead v r
unfolding row_meaning
row-read v s n (axis ∷ statusword ∷ actual ∷ mode_display ∷ state ∷ error ∷ driven ∷ setpoint ∷ controlword ∷ target ∷ place ∷ []) r h = row-by-read v s n _ r h
row-read v s n _ r h = absurd (cc h)

-- ---- the other records of a cycle, and of the drives

-- a row of a group
pub grow-read : (s : Setup) (n : ℕ) (fields : List (List ℕ)) (r : GroupRow) → grow_meaning s n fields ≡ Ok r → IsGroupRow r
unfolding grow_meaning
grow-read s n (group ∷ state ∷ error ∷ behind) r h =
    let named = bind_ok (broken_unless (bytes_eq (group_name s n) group) no_value) _ r h in
    let t = bind_ok (value (group_state_of state)) _ r named.2 in
    let e = bind_ok (value (unsigned_of 0 65535 error)) _ r t.2 in
    let empty = bind_ok (broken_unless (are_empty behind) no_value) _ r e.2 in
    let x : GroupRow = record { state = t.0; error = e.0 } in
    subst IsGroupRow (ok_is (Ok x) x r refl empty.2) (record { error = (unsigned-range 0 65535 error e.0 (found (unsigned_of 0 65535 error) no_value e.0 e.1)).1 })
grow-read s n _ r h = absurd (cc h)

-- what a drive took
pub drive-read : (s : Setup) (n : ℕ) (fields : List (List ℕ)) (d : DriveEndRow) → drive_meaning s n fields ≡ Ok d → IsDriveEnd d
unfolding drive_meaning
drive-read s n (axis ∷ taken ∷ state ∷ actual ∷ behind) d h =
    let named = bind_ok (broken_unless (bytes_eq (axis_name s n) axis) no_value) _ d h in
    let k = bind_ok (value (unsigned_of 0 (2 ^ 32 - 1) taken)) _ d named.2 in
    let t = bind_ok (value (drive_state_of state)) _ d k.2 in
    let a = bind_ok (count_of actual) _ d t.2 in
    let empty = bind_ok (broken_unless (are_empty behind) no_value) _ d a.2 in
    let x : DriveEndRow = record { taken = k.0; state = t.0; actual = a.0 } in
    let count = count-read actual a.0 a.1 in
    subst IsDriveEnd (ok_is (Ok x) x d refl empty.2) (record {
      taken = (unsigned-range 0 (2 ^ 32 - 1) taken k.0 (found (unsigned_of 0 (2 ^ 32 - 1) taken) no_value k.0 k.1)).1;
      least = count.least;
      most = count.most;
    })
drive-read s n _ d h = absurd (cc h)

-- the number of a cycle
pub cycle-read : (fields : List (List ℕ)) (n : ℕ) → cycle_meaning fields ≡ Ok n → (1 ≤ n) × (n < 2 ^ 32)
unfolding cycle_meaning
cycle-read (number ∷ behind) n h =
    let k = bind_ok (value (unsigned_of 1 (2 ^ 32 - 1) number)) _ n h in
    let empty = bind_ok (broken_unless (are_empty behind) no_value) _ n k.2 in
    let r = unsigned-range 1 (2 ^ 32 - 1) number k.0 (found (unsigned_of 1 (2 ^ 32 - 1) number) no_value k.0 k.1) in
    let some = r.0 in
    let few = r.1 in
    subst (λ m. (1 ≤ m) × (m < 2 ^ 32)) (ok_is (Ok k.0) k.0 n refl empty.2) (some, omega (arith, few))
cycle-read _ n h = absurd (cc h)
