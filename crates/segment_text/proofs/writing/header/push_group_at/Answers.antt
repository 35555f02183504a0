-- The group, and the commands that wait for it.
use Rattle.std.proofs.Common.{sym}
use Rattle.segment_text.proofs.HeaderLaws.{last_lines, no_lines_put}
use Rattle.segment_text.proofs.writing.header.push_group_at.Goals as goal

pub returns-in-None : goal.returns-in-None
returns-in-None c = rw (sym c.in-None.ensures) (no_lines_put _)

pub returns-in_ok-push_group-in-Some : goal.returns-in_ok-push_group-in-Some
returns-in_ok-push_group-in-Some c = rw (sym c.in-Some.ensures, ← c.requires.list) (last_lines _ _ _ _ _ _ c.in_ok-push_group-in-Some.ensures c.push_list.ensures)
