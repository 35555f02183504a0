-- The instance, if it is there.
use Rattle.std.proofs.Common.{◌∙◌, ap, sym}
use Rattle.std.specs.Prelude.{◌++◌}
use Rattle.segment_text.proofs.HeaderLaws.{no_lines_put, one-line}
use Rattle.segment_text.proofs.writing.header.push_instance_at.Goals as goal

pub returns-in-None : goal.returns-in-None
returns-in-None c = rw (sym c.in-None.ensures) (no_lines_put _)

pub returns-in_ok-push_instance-in-Some : goal.returns-in_ok-push_instance-in-Some
returns-in_ok-push_instance-in-Some c =
    rw (sym c.in-Some.ensures) (c.in_ok-push_instance-in-Some.ensures ∙ ap (λ t. c.args.out.now.items ++ t) (one-line _))
