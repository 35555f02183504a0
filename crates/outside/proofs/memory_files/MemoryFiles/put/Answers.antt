use Rattle.std.proofs.Common.{arith, refl}
use Rattle.std.proofs.lemmas.Map.Text.{text_keys}
use Rattle.outside.proofs.memory_files.MemoryFiles.put.Goals as goal

pub returns-clause-ok : goal.returns-clause-ok
returns-clause-ok c = record {
  file = grind (arith, text_keys);
  others = λ other ne. grind (arith, text_keys);
  counts = record { fails = refl; reads = refl; faults = refl };
}
