-- It is open after the command, or the same as before; the number is the caller's.
use Rattle.std.proofs.Common.{◌≡◌, to_z, of_z, w64, to_z-of_z}
use Rattle.otg.proofs.Opens.{open_either}
use Rattle.otg.proofs.commands.otg_velocity.Goals as goal

pub returns-clause-opened : goal.returns-clause-opened
returns-clause-opened c = open_either c.set.result c.args.otg.now c.set.new.otg c.set.ensures.opened c.set.ensures.same

pub returns-clause-code : goal.returns-clause-code
returns-clause-code c =
    let same : to_z w64 (of_z w64 c.args.velocity) ≡ c.args.velocity = to_z-of_z c.ranges.velocity in
    rw (rw same at c.commanded-wanted.ensures) at c.set.ensures.code

pub returns-clause-set : goal.returns-clause-set
returns-clause-set c =
    let same : to_z w64 (of_z w64 c.args.velocity) ≡ c.args.velocity = to_z-of_z c.ranges.velocity in
    rw (rw same at c.commanded-wanted.ensures) at c.set.ensures.set
