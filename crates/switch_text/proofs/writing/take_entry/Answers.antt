-- An entry more was taken.
use Rattle.std.proofs.Common.{◌∙◌, ◌+◌, ◌++◌, Some, ap, length, map, refl, sym}
use Rattle.std.specs.List.{flat_map}
use Rattle.std.specs.Option.{option_map, option_to_list}
use Rattle.std.specs.Vec.{with_items}
use Rattle.std.proofs.lemmas.List.{length-map, with_items_is}
use Rattle.switch_text.specs.Watches.{edge_after, watch_after}
use Rattle.motion_history.specs.Looks.{told}
use Rattle.trace_text.specs.TraceState.{entries_of}
use Rattle.switch_text.specs.Lines.{edge_line}
use Rattle.switch_text.proofs.EdgeLaws.{behind-cycle, behind-other}
use Rattle.switch_text.proofs.writing.take_entry.Goals as goal

pub returns-in_ok-push_cycle-in-Some-Cycle-clause-behind :
    goal.returns-in_ok-push_cycle-in-Some-Cycle-clause-behind
returns-in_ok-push_cycle-in-Some-Cycle-clause-behind c = λ ss behind.
    behind-cycle c.watches_go_on.ensures ss (entries_of c.args.trace.now) c.args.place
    c.in-Some-Cycle.field-0-0 c.in-Some-Cycle.axes.now c.in-Some-Cycle.field-0-2.now
    c.args.log.now
    (record {
      watches = with_items c.args.log.now.watches c.push_cycle.new.watches;
      cycles = c.args.log.now.cycles + 1;
      text = c.push_cycle.new.text;
    })
    (sym c.look.ensures ∙ ap (option_map told) c.in-Some-Cycle.is
    ∙ ap (λ e. Some (told e)) c.in-Some-Cycle.field-0-is)
    behind refl
    (with_items_is c.args.log.now.watches c.push_cycle.new.watches
    (ap length c.in_ok-push_cycle-in-Some-Cycle.ensures.watches
    ∙ length-map c.as_mut_slice.result.now (watch_after c.in-Some-Cycle.axes.now)
    ∙ ap length c.as_mut_slice.ensures.value ∙ sym c.args.log.now.watches.ok.0)
    ∙ c.in_ok-push_cycle-in-Some-Cycle.ensures.watches
    ∙ ap (map (watch_after c.in-Some-Cycle.axes.now)) c.as_mut_slice.ensures.value)
    (c.in_ok-push_cycle-in-Some-Cycle.ensures.text
    ∙ ap (λ ws. c.args.log.now.text.items ++ flat_map (λ w. flat_map edge_line (option_to_list
    (edge_after (c.args.log.now.cycles + 1) c.in-Some-Cycle.axes.now w))) ws)
    c.as_mut_slice.ensures.value)

pub returns-in-Some-Call-clause-behind : goal.returns-in-Some-Call-clause-behind
returns-in-Some-Call-clause-behind c = λ ss behind.
    behind-other ss (entries_of c.args.trace.now) c.args.place c.args.log.now _
    (sym c.look.ensures ∙ ap (option_map told) c.in-Some-Call.is
    ∙ ap (λ e. Some (told e)) c.in-Some-Call.field-0-is) tt behind

pub returns-in-Some-End-clause-behind : goal.returns-in-Some-End-clause-behind
returns-in-Some-End-clause-behind c = λ ss behind.
    behind-other ss (entries_of c.args.trace.now) c.args.place c.args.log.now _
    (sym c.look.ensures ∙ ap (option_map told) c.in-Some-End.is
    ∙ ap (λ e. Some (told e)) c.in-Some-End.field-0-is) tt behind

pub returns-in-None-clause-behind : goal.returns-in-None-clause-behind
returns-in-None-clause-behind c = λ ss behind.
    behind-other ss (entries_of c.args.trace.now) c.args.place c.args.log.now _
    (sym c.look.ensures ∙ ap (option_map told) c.in-None.is) tt behind
