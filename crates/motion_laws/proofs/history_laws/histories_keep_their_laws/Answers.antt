-- A legal history is a past.
use Rattle.motion_laws.proofs.history_laws.histories_keep_their_laws.Goals as goal

pub returns : goal.returns
returns c s es setup whole legal = c.pasts_keep_their_laws.ensures s es setup whole (record { follows = legal.follows })
