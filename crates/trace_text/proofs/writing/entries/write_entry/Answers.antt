-- The records of an entry.
use Rattle.trace_text.proofs.written.Texts.{entry_call, entry_cycle, entry_end}
use Rattle.trace_text.proofs.written.Writing.{Appends-same}
use Rattle.trace_text.proofs.writing.entries.write_entry.Goals as goal

pub returns-in-Call-clause-text : goal.returns-in-Call-clause-text
returns-in-Call-clause-text g c = rw c.in-Call.is (Appends-same _ _ _ _ _ (entry_call _ _ _ _ _) c.write_call.ensures.text)

pub returns-in-Cycle-clause-text : goal.returns-in-Cycle-clause-text
returns-in-Cycle-clause-text g c =
    rw c.in-Cycle.is (Appends-same _ _ _ _ _ (entry_cycle _ _ _ _ _) c.write_cycle_and_rows.ensures.text)

pub returns-in-End-clause-text : goal.returns-in-End-clause-text
returns-in-End-clause-text g c = rw c.in-End.is (Appends-same _ _ _ _ _ (entry_end _ _ _) c.write_end.ensures.text)
