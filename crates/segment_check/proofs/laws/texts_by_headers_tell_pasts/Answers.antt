-- Texts of trace segments that follow each other by their headers are one past, and so keep all
-- laws.
use Rattle.segment_check.proofs.HeaderRows.{RowLaws, from_opening, setup_of, whole_of}
use Rattle.segment_check.proofs.OpeningHeld.{opening_held}
use Rattle.segment_check.proofs.laws.texts_by_headers_tell_pasts.Goals as goal

laws : (c : goal.After-replies_tell_one_result) → RowLaws
laws c =
    let machines = c.machines_stay_kept.ensures in
    let axes = c.axes_keep_their_definitions.ensures in
    record {
      past = c.segments_keep_their_laws.ensures.past;
      machine = c.segments_keep_their_laws.ensures.machine;
      told = c.headers_are_read_back.ensures.told;
      spelled = c.headers_are_read_back.ensures.spelled;
      configured = record {
        machines = record {
          opened = machines.opened;
          call = machines.call;
          may_go_on = machines.may_go_on;
          cycle = machines.cycle;
        };
        definitions = record {
          command = axes.command;
          power = axes.power;
          detach = axes.detach;
          path = axes.path;
          cycle = axes.cycle;
        };
        opened = c.replies_tell_one_result.ensures.opened;
        call = c.replies_tell_one_result.ensures.call;
        cycle = c.replies_tell_one_result.ensures.cycle;
      };
    }

pub returns : goal.returns
returns c = λ s text texts whole h.
    let setup = setup_of s text h.next h.first in
    let whole_groups = whole_of s text h.next h.first in
    let held = opening_held s (c.machines_can_stand.ensures.opened s setup whole_groups).kept in
    let past = from_opening (laws c) s text texts whole held h in
    record { past = past; laws = c.pasts_keep_their_laws.ensures s whole setup whole_groups past }
