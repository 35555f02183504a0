-- What is found is the first of this name.
use Rattle.std.proofs.Common.{◌∙◌, ap, rules, tests, Bool}
use Rattle.std.specs.List.{find}
use Rattle.std.specs.Str.{str_eq_ignore_ascii_case}
use Rattle.std.proofs.lemmas.Iterator.{YieldsList-from_slice}
use Rattle.std.proofs.lemmas.Iterator.Search.{find_from_yields_List}
use Rattle.iec_interface.specs.Outputs.{output_of, output_text}
use Rattle.iec_interface.specs.declared.output.Output.{Output}
use Rattle.iec_interface.proofs.output.output_of.Goals as goal

pub returns : goal.returns
unfolding output_of
returns c =
    let test : Output → Bool = λ x. str_eq_ignore_ascii_case (output_text x) c.args.name.now in
    c.copied.ensures
    ∙ find_from_yields_List test _ _ _ c.find.ensures.ran (YieldsList-from_slice c.outputs_of.result.now c.iter.ensures.rest) (λ x b q k. search (rules, tests))
    ∙ ap (find test) c.outputs_of.ensures
