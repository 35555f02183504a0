-- What a reading tells, without where it lies in memory.
use Rattle.iec_grammar.specs.Reading.{Outcome}
use Rattle.iec_grammar.specs.declared.reading.Reading.{Reading}

abbrev pub told : Reading → Outcome
told r = record { nodes = r.nodes.items; refused = r.refused }
