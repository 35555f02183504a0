-- Empty fields after those that there are.
use Rattle.std.specs.Prelude.{refl}
use Rattle.trace_text.proofs.written.Padding.{padded-is}
use Rattle.trace_text.proofs.records.padded.Goals as goal

pub returns : goal.returns
returns c = padded-is c.args.fields.now _ _ c.copy_from_slice.ensures.after refl
