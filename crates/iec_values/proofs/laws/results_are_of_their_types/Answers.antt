-- What the tables give is of the type that they say.
use Rattle.iec_values.proofs.Called.{call-held, computed-held, truth-of-each}
use Rattle.iec_values.proofs.Held.{change-held, contrary-held, join-held, negative-held, operation-held, storing-held, widening-held, widening-same}
use Rattle.iec_values.proofs.laws.results_are_of_their_types.Goals as goal

pub returns : goal.returns
returns c = record {
  computed = computed-held;
  truths = truth-of-each;
  operations = operation-held;
  changes = change-held;
  operators = join-held;
  negatives = negative-held;
  contraries = contrary-held;
  calls = call-held;
  widened = widening-held;
  same = widening-same;
  stored = storing-held;
}
