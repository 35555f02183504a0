-- What is reported of a block's replies. This project's profile.
use Rattle.std.specs.Prelude.{◌+◌, ◌<◌, ◌^◌, List, length, count_by}
use Rattle.plc_types.specs.declared.outputs.Outputs.{Outputs}
use Rattle.scope_report.specs.declared.counts.Counts.{Counts}

-- how many there are, and how many show Done and Error
abbrev pub counts_of : List Outputs → Counts
counts_of replies = record {
  calls = length replies;
  done = count_by (λ (o : Outputs). o.done) replies;
  errors = count_by (λ (o : Outputs). o.error) replies;
}

-- the sums of counts
abbrev pub added : Counts → Counts → Counts
added a b = record {
  calls = a.calls + b.calls;
  done = a.done + b.done;
  errors = a.errors + b.errors;
}

-- the sums fit 64 bits
pub record CanAdd (a b : Counts) : Type 0 where
  pub calls : a.calls + b.calls < 2 ^ 64
  pub done : a.done + b.done < 2 ^ 64
  pub errors : a.errors + b.errors < 2 ^ 64

-- one more of each fits 64 bits
pub record HasOneMore (c : Counts) : Type 0 where
  pub calls : c.calls + 1 < 2 ^ 64
  pub done : c.done + 1 < 2 ^ 64
  pub errors : c.errors + 1 < 2 ^ 64
