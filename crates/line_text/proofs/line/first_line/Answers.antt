-- The first line ends before the first LF, or with the text.
use Rattle.std.proofs.Common.{◌+◌, ◌∷◌, take, ap, sym, ◌∙◌}
use Rattle.std.proofs.lemmas.List.{take_rest}
use Rattle.line_text.specs.Lines.{lines_of}
use Rattle.line_text.proofs.LineLaws.{lines_of-first, lines_of-whole}
use Rattle.line_text.proofs.line.first_line.Goals as goal

pub returns-in-Some-clause-lines : goal.returns-in-Some-clause-lines
returns-in-Some-clause-lines c =
    lines_of-first c.args.text.now c.in-Some.end (sym c.place_of.ensures.place ∙ c.in-Some.is)
    ∙ ap (λ rest. take c.in-Some.end c.args.text.now ∷ lines_of rest) (sym (take_rest c.args.text.now (c.in-Some.end + 1)))

pub returns-in-None-clause-lines : goal.returns-in-None-clause-lines
returns-in-None-clause-lines c =
    lines_of-whole c.args.text.now c.requires (sym c.place_of.ensures.place ∙ c.in-None.is)
