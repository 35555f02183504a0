-- The entries before stay as they are, and are there, and the new one stands after them.
use Rattle.std.specs.Prelude.{◌++◌, ◌∷◌, [], refl}
use Rattle.std.proofs.Common.{◌∙◌, ap}
use Rattle.trace_text.proofs.FoundLists.{more-is, more-kept, stay-kept}
use Rattle.trace_text.proofs.found_list.FoundList.push.Goals as goal

pub invariant_of-self : goal.invariant_of-self
invariant_of-self c = stay-kept c.self.inside _ c.self.invariant c.put_entry.ensures.grows refl refl

pub invariant_of-self-in_default : goal.invariant_of-self-in_default
invariant_of-self-in_default c = stay-kept c.self.inside _ c.self.invariant c.put_entry.ensures.grows c.in_default.ensures.items refl

pub invariant_of-self-2 : goal.invariant_of-self-2
invariant_of-self-2 c = more-kept c.self.inside _ _ _ c.cycles_add_up.ensures.more c.self.invariant c.put_entry.ensures.grows c.in-Ok.ensures.items c.in_ok-kept.ensures.kept c.in_ok-cycles.ensures

pub returns : goal.returns
returns c =
    more-is c.self.inside (record { kept = c.push.new.self; rooms = c.put_entry.new.self; cycles = c.in_ok-cycles.cycles }) _ _ c.self.invariant c.put_entry.ensures.grows c.in-Ok.ensures.items c.in_ok-kept.ensures.kept ∙
    ap (λ es. es ++ c.args.entry ∷ []) c.self.view_is
