-- One drive more has a position of 32 bits.
use Rattle.std.proofs.Common.{◌∙◌, ap, arith, subst, slice_index_or, inl, inr}
use Rattle.std.proofs.lemmas.Bool.{cases_lt}
use Rattle.std.proofs.lemmas.List.{get_or_default}
use Rattle.plc_types.specs.Counts.{IsCount}
use Rattle.drive_sim.specs.Sim.{DriveSim}
use Rattle.machine_drives.proofs.drives.positions_have_32_bits.Goals as goal

pub loop-drive-preserved : goal.loop-drive-preserved
loop-drive-preserved c =
    let i = c.loop-drive.drive-index in
    let drives = c.args.drives.now in
    let drive = c.drive-item.result in
    let bits : IsCount drive.actual =
    subst IsCount c.position_of.ensures.position c.position_of.ensures.bits in
    record {
      positions = λ k d l. elim (cases_lt k i) [
        | inl b ↦ c.loop-drive.invariant.positions k d b
        | inr b ↦ subst (λ (x : DriveSim). IsCount x.actual)
            (c.drive-item.is ∙ get_or_default drives i drive d c.loop-drive-test.true
            ∙ ap (λ j. slice_index_or drives j d) (omega arith)) bits
      ];
    }

pub returns : goal.returns
returns c k d l = c.loop-drive.invariant.positions k d (let t = c.loop-drive-test.false in omega arith)
