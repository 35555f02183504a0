-- One name more is defined.
use Rattle.std.proofs.Common.{◌≡◌, ◌∙◌, ◌<◌, ◌+◌, ℤ, to_z, of_z, w64, drop, get_or, length, ap, rules}
use Rattle.iec_declared.specs.Declarations.{all_defined}
use Rattle.iec_declared.proofs.NamesKept.{one_more, together_kept}
use Rattle.iec_declared.proofs.declared.Declarations.define_all.Goals as goal

pub loop-place-preserved : goal.loop-place-preserved
loop-place-preserved c =
    let within : c.loop-place.place < length c.loop-place.self.together = search rules in
    let item : c.index.result.now ≡ get_or c.loop-place.self.together c.loop-place.place c.index.result.now = search rules in
    let value : ℤ = to_z w64 (of_z w64 c.args.value) in
    record {
      names = ap (λ d. d.together) c.in_ok-define.ensures ∙ together_kept _ _ _ ∙ c.loop-place.invariant.names;
      rest = ap (λ d. all_defined (drop (c.loop-place.place + 1) c.args.self.now.together) value d) c.in_ok-define.ensures
          ∙ one_more c.args.self.now.together c.loop-place.self.together c.loop-place.place c.index.result.now value c.loop-place.self
          c.loop-place.invariant.names within item
          ∙ c.loop-place.invariant.rest;
    }
