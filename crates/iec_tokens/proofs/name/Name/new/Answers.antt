use Rattle.iec_tokens.proofs.NameLemmas.{IsNameBytes-written}
use Rattle.iec_tokens.proofs.name.Name.new.Goals as goal

pub invariant_of-result : goal.invariant_of-result
invariant_of-result c = IsNameBytes-written c.args.bytes.now c.copy_from_slice.new.self c.copy_from_slice.ensures.after c.requires
