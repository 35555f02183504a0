-- What is found is the first of this name.
use Rattle.std.proofs.Common.{◌∙◌, ap, rules, tests, Bool}
use Rattle.std.specs.List.{find}
use Rattle.std.specs.Str.{str_eq_ignore_ascii_case}
use Rattle.std.proofs.lemmas.Iterator.{YieldsList-from_slice}
use Rattle.std.proofs.lemmas.Iterator.Search.{find_from_yields_List}
use Rattle.iec_interface.specs.Inputs.{input_of, input_text}
use Rattle.iec_interface.specs.declared.input.Input.{Input}
use Rattle.iec_interface.proofs.input.input_of.Goals as goal

pub returns : goal.returns
unfolding input_of
returns c =
    let test : Input → Bool = λ x. str_eq_ignore_ascii_case (input_text x) c.args.name.now in
    c.copied.ensures
    ∙ find_from_yields_List test _ _ _ c.find.ensures.ran (YieldsList-from_slice c.inputs_of.result.now c.iter.ensures.rest) (λ x b q k. search (rules, tests))
    ∙ ap (find test) c.inputs_of.ensures
