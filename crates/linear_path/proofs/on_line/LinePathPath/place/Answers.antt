-- No way is longer than the longest.
use Rattle.std.proofs.Common.{arith, ◌≤◌, pos, unsigned_abs, to_z-of_z, FitsSigned, w64, slice_index_or}
use Rattle.std.proofs.lemmas.Int.{ints}
use Rattle.linear_path.proofs.LineLaws.{way_within}
use Rattle.linear_path.proofs.on_line.LinePathPath.place.Goals as goal

pub place_at-requires-clause-longest : goal.place_at-requires-clause-longest
place_at-requires-clause-longest c =
    let s_small : unsigned_abs (slice_index_or c.args.self.now.starts c.args.axis (pos 0))
    ≤ 1000000000000000 = c.args.self.now.starts_in_range c.args.axis in
    let t_small : unsigned_abs (slice_index_or c.args.self.now.targets c.args.axis (pos 0))
    ≤ 1000000000000000 = c.args.self.now.targets_in_range c.args.axis in
    let s : FitsSigned w64 (slice_index_or c.args.self.now.starts c.args.axis (pos 0)) =
    omega (arith, ints) in
    let t : FitsSigned w64 (slice_index_or c.args.self.now.targets c.args.axis (pos 0)) =
    omega (arith, ints) in
    simp to_z-of_z (rw c.longest_way.ensures.value
    (way_within c.args.self.now.count c.args.self.now.starts c.args.self.now.targets c.args.axis
    c.requires.axis))
