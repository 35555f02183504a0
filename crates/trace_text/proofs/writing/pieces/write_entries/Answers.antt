-- One more entry was written.
use Rattle.trace_text.proofs.written.Numbered.{from-appended}
use Rattle.trace_text.proofs.writing.pieces.write_entries.Goals as goal

pub loop-i-preserved : goal.loop-i-preserved
loop-i-preserved g c = record {
  text = from-appended _ c.args.history.now.entries c.args.from c.loop-i.i _ _ _ c.loop-i.invariant.text c.in_ok-write_entry_at.ensures.text;
  between = c.in_ok-write_entry_at.ensures.between;
}
