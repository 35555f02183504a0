-- The state that is found is the first of this name.
use Rattle.std.proofs.Common.{◌∙◌, rules, tests}
use Rattle.std.specs.Str.{bytes_eq}
use Rattle.std.proofs.lemmas.Iterator.{YieldsList-from_slice}
use Rattle.std.proofs.lemmas.Iterator.Search.{find_from_yields_List}
use Rattle.trace_columns.specs.Columns.{drive_state_of}
use Rattle.trace_columns.specs.Fields.{drive_state_text}
use Rattle.trace_columns.specs.declared.state.TheConstants.{DRIVE_STATES}
use Rattle.trace_columns.proofs.state.drive_state_of.Goals as goal

pub returns : goal.returns
unfolding drive_state_of
returns c =
    c.copied.ensures
    ∙ find_from_yields_List (λ x. bytes_eq (drive_state_text x) c.args.name.now) _ _ _ c.find.ensures.ran (YieldsList-from_slice DRIVE_STATES c.iter.ensures.rest) (λ x b q k. search (rules, tests))
