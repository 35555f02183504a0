-- The state that is found is the first of this name.
use Rattle.std.proofs.Common.{◌∙◌, rules, tests}
use Rattle.std.specs.Str.{bytes_eq}
use Rattle.std.proofs.lemmas.Iterator.{YieldsList-from_slice}
use Rattle.std.proofs.lemmas.Iterator.Search.{find_from_yields_List}
use Rattle.trace_columns.specs.Columns.{axis_state_of}
use Rattle.trace_columns.specs.Fields.{axis_state_text}
use Rattle.trace_columns.specs.declared.state.TheConstants.{AXIS_STATES}
use Rattle.trace_columns.proofs.state.axis_state_among.Goals as goal

pub returns : goal.returns
unfolding axis_state_of
returns c =
    c.copied.ensures
    ∙ find_from_yields_List (λ x. bytes_eq (axis_state_text x) c.args.name.now) _ _ _ c.find.ensures.ran (YieldsList-from_slice AXIS_STATES c.iter.ensures.rest) (λ x b q k. search (rules, tests))
