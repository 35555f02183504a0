-- The law of one cycle more.
use Rattle.switch_text.proofs.WatchLaws.{watches-go-on}
use Rattle.switch_text.proofs.laws.watches_go_on.Goals as goal

pub returns : goal.returns
returns c = watches-go-on
