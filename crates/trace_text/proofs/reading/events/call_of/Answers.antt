-- The fields by their places.
use Rattle.std.specs.Prelude.{ℕ, List}
use Rattle.std.proofs.Common.{subst, sym}
use Rattle.line_text.specs.Reading.{Gives}
use Rattle.trace_text.specs.reading.Events.{call_meaning}
use Rattle.trace_text.specs.declared.found.FoundEntry.{FoundEntry}
use Rattle.trace_text.proofs.read.Eleven.{texts-eleven}
use Rattle.trace_text.proofs.reading.events.call_of.Goals as goal

pub returns : goal.returns
unfolding call_meaning
returns c =
    let P : List (List ℕ) → Type 0 = λ t. Gives {X = FoundEntry} {Y = FoundEntry} (λ e. e) (call_meaning c.args.version c.args.machine.now t) c.call_by.result in
    subst P (sym (texts-eleven c.args.fields.now c.in-len11.len_at_least c.in-len11.len_below)) c.call_by.ensures
