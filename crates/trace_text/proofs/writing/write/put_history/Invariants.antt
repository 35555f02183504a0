use Rattle.std.proofs.Common.{◌≡◌, ◌*◌, min, take, length}
use Rattle.std.specs.List.{flat_map}
use Rattle.std.specs.Io.KnownBytes.{Appends}
use Rattle.trace_text.specs.writing.Parts.{entry_text}
use Rattle.trace_text.proofs.writing.write.put_history.Given as goal

abbrev pub invariant-loop-piece : goal.invariant-loop-piece
invariant-loop-piece g l = record {
  text : Appends (g.K.Sink.told l.fn.out) (g.K.Sink.told l.out)
      (flat_map (entry_text l.version l.config) (take (min (l.piece * 200) (length l.history.entries)) l.history.entries));
  kept : g.K.Sink.count l.out ≡ g.K.Sink.count l.fn.out;
  entries : l.entries ≡ length l.history.entries;
}
