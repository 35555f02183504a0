-- The parts of a point stand round its first colon.
use Rattle.std.proofs.Common.{refl, arith}
use Rattle.std.proofs.lemmas.Str.Pattern.{split_once_first}
use Rattle.line_text.specs.Numbers.{is_colon}
use Rattle.machine_config.specs.Quantities.{point_of}
use Rattle.machine_config.proofs.Colons.{none_passes, one_passes}
use Rattle.machine_config.proofs.quantity.point_of.Goals as goal

pub returns-in_default : goal.returns-in_default
unfolding point_of
returns-in_default c =
    let cut = split_once_first 58 c.args.text.now c.split_once.result c.split_once.ensures.cases (omega arith) in
    let none = rw c.in_default.is at cut in
    rw (none_passes is_colon c.args.text.now none) refl

pub returns : goal.returns
unfolding point_of
returns c =
    let cut = split_once_first 58 c.args.text.now c.split_once.result c.split_once.ensures.cases (omega arith) in
    let (within, x, y) = rw c.in-Some.is at cut in
    rw (one_passes is_colon c.args.text.now within, ← x, ← y) c.point_at.ensures
