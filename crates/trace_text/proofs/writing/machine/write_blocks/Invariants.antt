use Rattle.std.proofs.Common.{take}
use Rattle.std.specs.Io.KnownBytes.{Appends}
use Rattle.std.specs.List.{flat_map}
use Rattle.csv.specs.Writing.{text_written}
use Rattle.trace_text.specs.writing.Between.{IsBetween}
use Rattle.trace_text.specs.Records.{record_text, block_fields}
use Rattle.trace_text.proofs.writing.machine.write_blocks.Given as goal

abbrev pub invariant-loop-block : goal.invariant-loop-block
invariant-loop-block g l = record {
  text : Appends (text_written g.W.Write.contents l.fn.wtr) (text_written g.W.Write.contents l.wtr)
      (flat_map (λ d. record_text (block_fields l.config d)) (take l.block-index l.blocks));
  between : IsBetween l.wtr;
}
