-- What is read of the records of a header that were written, and what is read is spelled so. This
-- project's profile.
use Rattle.std.specs.Prelude.{◌≡◌, ℕ, Ok, Some, List, ◌∷◌, ◌++◌, drop}
use Rattle.axis_core.specs.declared.axis.Axis.{Axis}
use Rattle.plc_types.specs.declared.axis.AxisDef.{AxisDef}
use Rattle.command_pool.specs.declared.wanted.Wanted.{Wanted}
use Rattle.fb_outputs.specs.InstanceState.{InstanceState}
use Rattle.motion_history.specs.declared.config.BlockDef.{BlockDef}
use Rattle.motion_history.specs.declared.config.GroupDef.{GroupDef}
use Rattle.motion_history.specs.Setup.{IsSetup, Setup}
use Rattle.motion_kernel.specs.Machine.{Machine, PlacedGroup}
use Rattle.motion_kernel.specs.declared.segment.Before.{Before}
use Rattle.segment_text.specs.Held.{IsAxisOf, IsGroupOf, IsHeld, IsInstanceOf, IsWanted}
use Rattle.segment_text.specs.TraceSegment.{header_text, segment_text}
use Rattle.segment_text.specs.Records.{axis_fields, group_fields, instance_fields}
use Rattle.segment_text.specs.WantedFields.{wanted_fields}
use Rattle.segment_text.specs.reading.Axes.{axis_of}
use Rattle.segment_text.specs.reading.Commands.{wanted_of}
use Rattle.segment_text.specs.reading.Groups.{group_of}
use Rattle.segment_text.specs.reading.Instances.{instance_of}
use Rattle.segment_text.specs.declared.trace_segment.TraceSegment.{TraceSegment}
use Rattle.segment_text.specs.reading.Reading.{halves_of, header_of, trace_segment_of}
use Rattle.trace_text.specs.reading.Reading.{trace_of}

-- the fields after the number of an axis, a group or a block, and those of a command, are read as
-- what was written
pub record AreRecordsReadBack : Type 0 where
  pub axes : (d : AxisDef) (n : ℕ) (a : Axis) → IsAxisOf d a →
      axis_of d (drop 2 (axis_fields n a)) ≡ Some a
  pub groups : (d : GroupDef) (n : ℕ) (g : PlacedGroup) → IsGroupOf d g →
      group_of d (drop 2 (group_fields n g)) ≡ Some g
  pub instances : (d : BlockDef) (n : ℕ) (i : InstanceState) → IsInstanceOf d i →
      instance_of d.kind (drop 2 (instance_fields n i)) ≡ Some i
  pub commands : (w : Wanted) → IsWanted w → wanted_of (wanted_fields w) ≡ Some w

-- fields spell a value in the one way, and it can be held
pub record AreSpelledBy {A : Type 0} (held : A → Type 0) (spelling : ℕ → A → List (List ℕ))
    (fields : List (List ℕ)) (x : A) : Type 0 where
  pub spelled : (n : ℕ) → spelling n x ≡ fields
  pub is : held x

-- fields that are read as a value spell it in the one way
pub record AreRecordsSpelled : Type 0 where
  pub axes : (d : AxisDef) (fields : List (List ℕ)) (a : Axis) → axis_of d fields ≡ Some a →
      AreSpelledBy (IsAxisOf d) (λ n b. drop 2 (axis_fields n b)) fields a
  pub groups : (d : GroupDef) (fields : List (List ℕ)) (g : PlacedGroup) →
      group_of d fields ≡ Some g →
      AreSpelledBy (IsGroupOf d) (λ n h. drop 2 (group_fields n h)) fields g
  pub instances : (d : BlockDef) (fields : List (List ℕ)) (i : InstanceState) →
      instance_of d.kind fields ≡ Some i →
      AreSpelledBy (IsInstanceOf d) (λ n j. drop 2 (instance_fields n j)) fields i
  pub commands : (fields : List (List ℕ)) (w : Wanted) → wanted_of fields ≡ Some w →
      AreSpelledBy IsWanted (λ _ v. wanted_fields v) fields w

-- the header of a machine of a configuration is read as it
abbrev pub HeadersAreReadBack : Type 0
HeadersAreReadBack = (s : Setup) (b : Before) (m : Machine) →
    IsHeld s b m → header_of s (header_text b m) ≡ Ok (b, m)

-- a text spells a trace segment: the header of what it was read as, a blank line, and the text that
-- its trace was read from
pub record IsTextOf (text : List ℕ) (p : TraceSegment) : Type 0 where
  pub behind : List ℕ
  pub is : text ≡ segment_text p.before p.machine behind
  pub halves : halves_of text ≡ Some (header_text p.before p.machine, behind)
  pub trace : trace_of behind ≡ Ok p.trace
  pub held : IsHeld p.trace.config p.before p.machine

-- each text that is read as a trace segment of a configuration spells it, and a header can hold it
abbrev pub TextsAreSpelled : Type 0
TextsAreSpelled = (text : List ℕ) (p : TraceSegment) → IsSetup p.trace.config →
    trace_segment_of text ≡ Ok p → IsTextOf text p

-- so machines of a configuration with the same header are the same, and so is what was before
abbrev pub HeadersTellMachines : Type 0
HeadersTellMachines = (s : Setup) (b c : Before) (m n : Machine) → IsHeld s b m → IsHeld s c n →
    header_text b m ≡ header_text c n → (b ≡ c) × (m ≡ n)
