-- The lemmas on multiples of the increment.
use Rattle.plc_types.proofs.CountLemmas.{multiple-count, multiple-place}
use Rattle.plc_types.proofs.laws.starts_are_counts.Goals as goal

pub returns-clause-count : goal.returns-clause-count
returns-clause-count c = multiple-count

pub returns-clause-place : goal.returns-clause-place
returns-clause-place c = multiple-place
