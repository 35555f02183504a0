use Rattle.std.proofs.Common.{FitsSigned, w64, to_z-of_z, arith}
use Rattle.std.proofs.lemmas.Int.{ints}
use Rattle.kernel_invariants.proofs.group.path.is_motion_kept.Goals as goal

pub returns : goal.returns
returns c =
    let h = c.well_formed in
    let p : FitsSigned w64 c.args.motion.now.previous = omega (arith, ints) in
    let q : FitsSigned w64 c.args.motion.now.place = omega (arith, ints) in
    simp to_z-of_z at c.is_kept.ensures
