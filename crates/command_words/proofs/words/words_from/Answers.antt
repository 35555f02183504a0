-- The texts that are collected are the arguments after the first.
use Rattle.std.proofs.Common.{ap, sym, Global, ◌∙◌}
use Rattle.std.specs.Prelude.{map, Ok}
use Rattle.std.specs.Iterator.Adapters.{skip_source}
use Rattle.std.specs.String.{string_bytes}
use Rattle.std.specs.Vec.Iter.{into_iter_items, into_iter_len}
use Rattle.std.specs.declared.alloc.AllocError.{AllocError}
use Rattle.std.proofs.lemmas.Iterator.{items_from_collect}
use Rattle.std.proofs.lemmas.Iterator.Adapters.{YieldsList-from_skip, YieldsList-from_vec}
use Rattle.std.proofs.lemmas.List.{drop-map}
use Rattle.command_words.proofs.words.words_from.Goals as goal

pub returns : goal.returns
returns c =
    let source = c.skip.ensures.source in
    let all = YieldsList-from_vec {Z = Global} {s = skip_source c.skip.result}
    (into_iter_items c.args.args) (ap into_iter_items source)
    (ap into_iter_len source ∙ c.args.args.rest.ok.0) in
    let texts = items_from_collect {Z = Global} {E = AllocError} (Ok c.in_ok-texts.texts)
    c.in_ok-texts.ensures.ran (YieldsList-from_skip {s = c.skip.result} 1 all c.skip.ensures.count)
    in
    ap (map string_bytes) texts ∙ sym (drop-map string_bytes 1 (into_iter_items c.args.args))
