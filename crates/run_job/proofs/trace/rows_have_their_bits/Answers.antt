-- One row more has numbers of the bits of their types.
use Rattle.std.proofs.Common.{◌∙◌, ap, arith, subst, slice_index_or, inl, inr}
use Rattle.std.proofs.lemmas.Bool.{cases_lt}
use Rattle.std.proofs.lemmas.List.{get_or_default}
use Rattle.trace_text.specs.RowRanges.{IsDriveEnd}
use Rattle.run_job.proofs.trace.rows_have_their_bits.Goals as goal

pub loop-row-preserved : goal.loop-row-preserved
loop-row-preserved c =
    let i = c.loop-row.row-index in
    let rows = c.args.rows.now in
    record {
      bits = λ k d l. elim (cases_lt k i) [
        | inl b ↦ c.loop-row.invariant.bits k d b
        | inr b ↦ subst IsDriveEnd
            (get_or_default rows i _ d c.loop-row-test.true
            ∙ ap (λ j. slice_index_or rows j d) (omega arith)) c.has_its_bits.ensures
      ];
    }

pub returns : goal.returns
returns c = λ k d l. c.loop-row.invariant.bits k d (let t = c.loop-row-test.false in omega arith)
