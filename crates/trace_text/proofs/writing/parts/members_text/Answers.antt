-- One more part.
use Rattle.std.specs.Prelude.{slice_index_or}
use Rattle.std.proofs.Common.{◌∙◌, ap}
use Rattle.trace_text.specs.Records.{axis_name}
use Rattle.trace_text.proofs.written.Joined.{join-more}
use Rattle.trace_text.proofs.writing.parts.members_text.Goals as goal

pub loop-i-preserved : goal.loop-i-preserved
loop-i-preserved c = record {
  text = join-more 59 _ _ c.loop-i.i _ _ _ _ (rw (← c.members-axis-items.ensures) c.loop-i-test.true) c.loop-i.invariant.text (c.name_text.ensures ∙ c.axis_name-name.ensures ∙ ap (λ xs. axis_name c.args.config.now (slice_index_or xs c.loop-i.i 0)) c.members-axis-items.ensures) c.in_ok-push_part.ensures;
  items = c.loop-i.invariant.items;
}
