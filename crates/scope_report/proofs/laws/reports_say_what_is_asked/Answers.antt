use Rattle.scope_report.proofs.Said.{says-of-each}
use Rattle.scope_report.proofs.laws.reports_say_what_is_asked.Goals as goal

pub returns : goal.returns
returns c = says-of-each
