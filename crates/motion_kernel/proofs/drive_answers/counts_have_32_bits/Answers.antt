-- One answer more has a count of 32 bits.
use Rattle.std.proofs.Common.{◌∙◌, ap, arith, subst, slice_index_or, inl, inr}
use Rattle.std.proofs.lemmas.Bool.{cases_lt}
use Rattle.std.proofs.lemmas.List.{get_or_default}
use Rattle.plc_types.specs.Counts.{IsCount}
use Rattle.plc_types.specs.declared.drive.DriveIn.{DriveIn}
use Rattle.motion_kernel.proofs.drive_answers.counts_have_32_bits.Goals as goal

pub loop-input-preserved : goal.loop-input-preserved
loop-input-preserved c =
    let i = c.loop-input.input-index in
    let ins = c.args.ins.now in
    let bits = subst IsCount c.count_of.ensures.count c.count_of.ensures.bits in
    record {
      counts = λ k d l. elim (cases_lt k i) [
        | inl b ↦ c.loop-input.invariant.counts k d b
        | inr b ↦ subst (λ (x : DriveIn). IsCount x.actual)
            (get_or_default ins i _ d c.loop-input-test.true ∙ ap (λ j. slice_index_or ins j d) (omega arith)) bits
      ];
    }

pub returns : goal.returns
returns c k d l = c.loop-input.invariant.counts k d (let t = c.loop-input-test.false in omega arith)
