-- What is left after a part.
use Rattle.std.proofs.Common.{sym}
use Rattle.std.proofs.lemmas.List.{drop-drop}
use Rattle.st_build.proofs.cursor.go_over.Goals as goal

pub returns-clause-rest : goal.returns-clause-rest
returns-clause-rest c = sym (drop-drop 1 c.args.at.now c.args.parts.now)
