-- What the headlines say is among the laws.
use Rattle.motion_laws.specs.limits.Drives.{TargetsFollowSetpoints}
use Rattle.motion_laws.proofs.history_laws.histories_keep_the_headline.Goals as goal

pub returns : goal.returns
unfolding TargetsFollowSetpoints
returns c s es setup whole legal =
    let laws = c.histories_keep_their_laws.ensures s es setup whole legal in
    record {
      setup = setup;
      whole = whole;
      limits = laws.limits;
      driven = laws.driven;
      targets = λ n k d r axis row. ((laws.drives n d axis).each k r row).count;
      arrival = λ made more e n is there. (laws.moves made more e n is there).in_time;
    }
