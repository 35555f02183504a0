-- The fields so far are put.
use Rattle.std.proofs.Common.{◌≡◌, ◌++◌, take}
use Rattle.line_text.specs.Texts.{texts}
use Rattle.segment_text.specs.Texts.{fields_text}
use Rattle.segment_text.proofs.writing.field.push_fields.Given as goal

abbrev pub invariant-loop-field : goal.invariant-loop-field
invariant-loop-field l = l.out.items ≡ l.fn.out.items ++ fields_text (texts (take l.field-index l.fields))
