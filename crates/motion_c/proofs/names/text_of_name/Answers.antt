-- A name has at most sixteen bytes.
use Rattle.std.proofs.Common.{ap, arith, length}
use Rattle.plc_types.proofs.NameLemmas.{is_name-short}
use Rattle.motion_c.proofs.names.text_of_name.Goals as goal

pub text_of-requires : goal.text_of-requires
text_of-requires c =
    let short = is_name-short c.args.name.now c.bytes.ensures.named in
    let same = ap length c.bytes.ensures.bytes in
    omega (arith, short, same)
