-- The count is read off the completed square.
use Rattle.std.proofs.Common.{inl, inr, ◌*◌, arith}
use Rattle.std.proofs.lemmas.Bool.{cases_lt}
use Rattle.ramp_root.proofs.SumLemmas.{Offset, above, below, count-fits, count-greatest}
use Rattle.ramp_root.proofs.counts.count_by_root.Goals as goal

pub returns-clause-fits : goal.returns-clause-fits
returns-clause-fits c =
    let offset : Offset c.args.d c.args.r c.abs_diff-offset.result =
    elim (cases_lt (2 * c.args.r) c.args.d) [
      | inl h ↦ below (omega arith)
      | inr h ↦ above (omega arith)
    ] in
    count-fits c.args.l c.args.d c.args.r c.root.result c.abs_diff-offset.result c.requires.least_rise offset c.root.ensures.square

pub returns-clause-greatest : goal.returns-clause-greatest
returns-clause-greatest c =
    let offset : Offset c.args.d c.args.r c.abs_diff-offset.result =
    elim (cases_lt (2 * c.args.r) c.args.d) [
      | inl h ↦ below (omega arith)
      | inr h ↦ above (omega arith)
    ] in
    count-greatest c.args.l c.args.d c.args.r c.root.result c.abs_diff-offset.result c.requires.least_rise offset c.root.ensures.greatest
