-- Each reply shows what command its block has.
use Rattle.motion_laws.proofs.entries.replies.Shows.{entry_shows}
use Rattle.motion_laws.proofs.reply_laws.replies_show_commands.Goals as goal

pub returns : goal.returns
returns c =
    let m = c.machines_stay_kept.ensures in
    record {
      entries = entry_shows (record {
        opened = m.opened;
        call = m.call;
        may_go_on = m.may_go_on;
        cycle = m.cycle;
      }) c.configurations_are_sound.ensures c.commands_are_where_their_instances_show.ensures.entries;
    }
